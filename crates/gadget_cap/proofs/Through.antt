-- Counts within the values and the rooms, in the graph with gates: the first copies of each vertex are taken, and the others stay free.
use Rattle.mb_problem.proofs.Common.{◌≡◌, ℕ, ltb, ◌+◌, ◌*◌, ◌-◌, ◌<◌, ◌≤◌, pos, ◌*ℤ◌, Bool, false, cond, eqb, refl, ap, sym, ◌∙◌, subst, inl, inr}
use Rattle.mb_problem.proofs.Common.{arith, List, length, slice_index, cases_Bool, cases_eq, cases_lt, ne_eqb, eqb-true, sum_to, degree, weight, sum_to-same, int_sum_to-same, times-sum_to}
use Rattle.mb_problem.proofs.Common.{Network, IsNetwork, vertices, graph_of, instance_edge_at, value_of, value_total, value_u, value_v, is_loop_at, HasCounts, DegreesMeet, edge-ends, IsIn}
use Rattle.mb_problem.proofs.Common.{find_block}
use Rattle.gadget_base.proofs.Common.{before_gates, capped_graph, taken, units, taken-all, units-row, units-column, units-total, use_at, used, degree-used, weight-used, used-within_u}
use Rattle.gadget_base.proofs.Common.{used-within_v, used-within_loop}
use Rattle.gadget_cap.proofs.UnitLemmas.{taken-append, taken-if, taken-two}
use Rattle.gadget_cap.proofs.GateLemmas.{Passage, all_counts, all-one_each, value, below, FillsGates, entered, degree-copy, degree-first, degree-second, weight-by_entered}
use Rattle.gadget_cap.proofs.Uses.{eqb_before, use-at}

-- counts of at most the rooms, with degrees of at most the values
pub record IsWithinRooms (i : Network) (room : ℕ → ℕ) (counts : List ℕ) : Type 0 where
  pub one_each : HasCounts i counts
  pub degrees : DegreesMeet i counts (λ v d. d ≤ value_of i v)
  pub rooms : (k : ℕ) → k < length i.edges → slice_index counts k ≤ room k

-- counts of the graph that fill the gates and take the first copies of each vertex, as many as its degree
pub record TakesFirst (i : Network) (room : ℕ → ℕ) (counts taking : List ℕ) : Type 0 where
  pub one_each : length taking ≡ length (capped_graph i room).edges
  pub copies : (t c : ℕ) → t < vertices i → c < value i t → degree (capped_graph i room) taking (below i t + c + 1) ≡ cond (ltb c (degree (graph_of i) counts (t + 1))) 1 0
  pub gates : FillsGates i room taking
  pub weighs : weight (capped_graph i room) taking ≡ weight (graph_of i) counts

-- how many copies of vertex t are taken before the units of edge number k + 1 come to it as the second end: by the
-- edges before, and, of a loop, by these units at its first end
abbrev pub taken_before : Network → List ℕ → ℕ → ℕ → ℕ
taken_before i counts k t = used i counts t k + cond (eqb (instance_edge_at i k).u t) (slice_index counts k) 0

-- each unit of an edge goes from the next copy of its first end through the next place of both gates to the next copy
-- of its second end; the places of the gates that are left are joined
abbrev pub through : Network → (ℕ → ℕ) → List ℕ → Passage
through i room counts = record {
  enter = λ k. units (used i counts (instance_edge_at i k).u k) 0 (slice_index counts k);
  cross = λ k. units (slice_index counts k) (slice_index counts k) (room k - slice_index counts k);
  leave = λ k. units 0 (taken_before i counts k (instance_edge_at i k).v) (slice_index counts k);
}

-- the degrees

-- what the units at one end of an edge take of vertex t + 1, where f says how many of its copies are taken before
taken-at_end : (f : ℕ → ℕ) (u t x c : ℕ) → 1 ≤ u → cond (eqb (u - 1) t) (taken (f u) x c) 0 ≡ taken (f (t + 1)) (cond (eqb (u - 1) t) x 0) c
taken-at_end f u t x c low =
    elim (cases_eq (u - 1) t) [
      | inl e ↦ let at : u ≡ t + 1 = omega arith in ap (λ y. cond (eqb (u - 1) t) (taken (f y) x c) 0) at ∙ taken-if (eqb (u - 1) t) (f (t + 1)) x c
      | inr d ↦ let off : eqb (u - 1) t ≡ false = ne_eqb (u - 1) t d in rw off refl
    ]

-- the copies of vertex t + 1 that an edge takes are the next ones of it
copy-term : (i : Network) (room : ℕ → ℕ) (counts : List ℕ) (t c k : ℕ) → IsNetwork i → IsWithinRooms i room counts → k < length i.edges → cond (eqb ((instance_edge_at i k).u - 1) t)
    (sum_to ((through i room counts).enter k c) (room k)) 0 + cond (eqb ((instance_edge_at i k).v - 1) t) (sum_to (λ l. (through i room counts).leave k l c) (room k)) 0
    ≡ taken (used i counts (t + 1) k) (use_at i counts (t + 1) k) c
copy-term i room counts t c k net answer b =
    let u = (instance_edge_at i k).u in
    let v = (instance_edge_at i k).v in
    let x = slice_index counts k in
    let r = room k in
    let small : x ≤ r = answer.rooms k b in
    let is = edge-ends i k net b in
    let s = used i counts (t + 1) k in
    let first = cond (eqb (u - 1) t) x 0 in
    let second = cond (eqb (v - 1) t) x 0 in
    let row = ap (λ y. cond (eqb (u - 1) t) y 0) (units-row (used i counts u k) 0 x r c (omega arith)) in
    let column = ap (λ y. cond (eqb (v - 1) t) y 0) (units-column 0 (taken_before i counts k v) x r c (omega arith)) in
    let at_u = taken-at_end (λ y. used i counts y k) u t x c is.u_low in
    let after : taken (taken_before i counts k (t + 1)) second c ≡ taken (s + first) second c = ap (λ (p : Bool). taken (s + cond p x 0) second c) (eqb_before u t is.u_low) in
    let all : taken s (use_at i counts (t + 1) k) c ≡ taken s (first + second) c = ap (λ y. taken s y c) (use-at i counts t k net b) in
    omega (arith, row, column, at_u, taken-at_end (taken_before i counts k) v t x c is.v_low, after, taken-append s first second c, all)

-- there are copies for an edge at its second end, at a loop after those at its first
copies-left : (i : Network) (room : ℕ → ℕ) (counts : List ℕ) (k : ℕ) → IsNetwork i → IsWithinRooms i room counts → k < length i.edges
    → taken_before i counts k (instance_edge_at i k).v + slice_index counts k ≤ value_v i k
copies-left i room counts k net answer b =
    let u = (instance_edge_at i k).u in
    let v = (instance_edge_at i k).v in
    let x = slice_index counts k in
    elim (cases_Bool (is_loop_at i k)) [
      | inl h ↦
          let at_v = subst (λ y. used i counts y k + 2 * x ≤ value_of i y) (eqb-true u v h) (used-within_loop i counts k net answer.degrees b h) in
          rw h (omega (arith, at_v))
      | inr h ↦ let at_v = used-within_v i counts k net answer.degrees b in rw h (omega (arith, at_v))
    ]

through-copy : (i : Network) (room : ℕ → ℕ) (counts : List ℕ) (t c : ℕ) → IsNetwork i → IsWithinRooms i room counts → t < vertices i → c < value i t
    → degree (capped_graph i room) (all_counts i room (through i room counts)) (below i t + c + 1) ≡ cond (ltb c (degree (graph_of i) counts (t + 1))) 1 0
through-copy i room counts t c net answer b l =
    let p = through i room counts in
    degree-copy i room p t c b l
    ∙ sum_to-same (λ k. cond (eqb ((instance_edge_at i k).u - 1) t) (sum_to (p.enter k c) (room k)) 0 + cond (eqb ((instance_edge_at i k).v - 1) t) (sum_to (λ l. p.leave k l c) (room k)) 0)
    (λ k. taken (used i counts (t + 1) k) (use_at i counts (t + 1) k) c) (length i.edges) (λ k h. copy-term i room counts t c k net answer h)
    ∙ taken-all (use_at i counts (t + 1)) (length i.edges) c
    ∙ ap (λ d. cond {A = ℕ} (ltb c d) 1 0) (sym (degree-used i counts (t + 1)))

through-first : (i : Network) (room : ℕ → ℕ) (counts : List ℕ) (k j : ℕ) → IsNetwork i → IsWithinRooms i room counts → k < length i.edges → j < room k
    → degree (capped_graph i room) (all_counts i room (through i room counts)) (before_gates i room k + j + 1) ≡ 1
through-first i room counts k j net answer b l =
    let x = slice_index counts k in
    let r = room k in
    let small : x ≤ r = answer.rooms k b in
    let one = units-column (used i counts (instance_edge_at i k).u k) 0 x (value_u i k) j (used-within_u i counts k net answer.degrees b) in
    omega (arith, degree-first i room (through i room counts) k net b j l, one, units-row x x (r - x) r j (omega arith), taken-two x (r - x) j (omega arith))

through-second : (i : Network) (room : ℕ → ℕ) (counts : List ℕ) (k j : ℕ) → IsNetwork i → IsWithinRooms i room counts → k < length i.edges → j < room k
    → degree (capped_graph i room) (all_counts i room (through i room counts)) (before_gates i room k + room k + j + 1) ≡ 1
through-second i room counts k j net answer b l =
    let x = slice_index counts k in
    let r = room k in
    let small : x ≤ r = answer.rooms k b in
    let two = units-row 0 (taken_before i counts k (instance_edge_at i k).v) x (value_v i k) j (copies-left i room counts k net answer b) in
    omega (arith, degree-second i room (through i room counts) k net b j l, units-column x x (r - x) r j (omega arith), two, taken-two x (r - x) j (omega arith))

through-gate : (i : Network) (room : ℕ → ℕ) (counts : List ℕ) (v : ℕ) → IsNetwork i → IsWithinRooms i room counts → value_total i < v
    → IsIn (λ k. 2 * room k) (length i.edges) (v - 1 - value_total i) → degree (capped_graph i room) (all_counts i room (through i room counts)) v ≡ 1
through-gate i room counts v net answer low found =
    let P : ℕ → Type 0 = λ y. degree (capped_graph i room) (all_counts i room (through i room counts)) y ≡ 1 in
    let k = found.block in
    let is = found.is in
    let place_low = found.place_low in
    let scaled = times-sum_to 2 room k in
    elim (cases_lt found.place (room k)) [
      | inl first ↦
          let at : before_gates i room k + found.place + 1 ≡ v = omega (arith, scaled) in
          subst P at (through-first i room counts k found.place net answer found.block_low first)
      | inr second ↦
          let at : before_gates i room k + room k + (found.place - room k) + 1 ≡ v = omega (arith, scaled) in
          subst P at (through-second i room counts k (found.place - room k) net answer found.block_low (omega arith))
    ]

through-weight : (i : Network) (room : ℕ → ℕ) (counts : List ℕ) → IsNetwork i → IsWithinRooms i room counts
    → weight (capped_graph i room) (all_counts i room (through i room counts))
    ≡ weight (graph_of i) counts
through-weight i room counts net answer =
    weight-by_entered i room (through i room counts)
    ∙ int_sum_to-same (λ k. pos (entered i room (through i room counts) k) *ℤ (instance_edge_at i k).w) (λ k. pos (slice_index counts k) *ℤ (instance_edge_at i k).w) (length i.edges)
    (λ k b.
    let small : slice_index counts k ≤ room k = answer.rooms k b in
    ap (λ y. pos y *ℤ (instance_edge_at i k).w) (units-total (used i counts (instance_edge_at i k).u k) 0 (slice_index counts k) (value_u i k) (room k)
    (used-within_u i counts k net answer.degrees b) (omega arith)))
    ∙ sym (weight-used i counts)

pub takes_first : (i : Network) (room : ℕ → ℕ) (counts : List ℕ) → IsNetwork i → IsWithinRooms i room counts
    → TakesFirst i room counts (all_counts i room (through i room counts))
takes_first i room counts net answer = record {
  one_each = all-one_each i room (through i room counts);
  copies = λ t c b l. through-copy i room counts t c net answer b l;
  gates = λ v low high. through-gate i room counts v net answer low
      (find_block (λ k. 2 * room k) (length i.edges) (v - 1 - value_total i) (omega (arith, times-sum_to 2 room (length i.edges))));
  weighs = through-weight i room counts net answer;
}
