-- Counts with degree 1 at each vertex of a gate say counts within the rooms: the degree of a vertex is that of its copies together.
use Rattle.mb_problem.proofs.Common.{◌≡◌, ℕ, ◌+◌, ◌*◌, ◌-◌, ◌<◌, ◌≤◌, pos, ◌*ℤ◌, false, cond, eqb, refl, ap, sym, ◌∙◌, subst, inl, inr, arith, List}
use Rattle.mb_problem.proofs.Common.{◌++◌, length, slice_index, cases_eq, ne_eqb, sum_to, degree, weight, IsPerfect, sum_to-same, int_sum_to-same, sum_to-add, sum_to-swap, Network}
use Rattle.mb_problem.proofs.Common.{IsNetwork, vertices, graph_of, instance_edge_at, value_u, value_v, HasCounts, IsBMatching, sum_to-ones, sum_to-cond, sum_to-grows}
use Rattle.gadget_base.proofs.Common.{tabled, before_gates, gated, capped_graph, blocks-length, blocks-same, tabled-blocks, tabled-rows, tabled-length, tabled-at, table, use_at, degree-used}
use Rattle.gadget_base.proofs.Common.{weight-used}
use Rattle.gadget_cap.specs.Places.{gate_size, gates_before}
use Rattle.gadget_cap.proofs.Tables.{tabled-three}
use Rattle.gadget_cap.proofs.GateLemmas.{Passage, gate_counts, all_counts, gated-length, value, below, copies-below, FillsGates, entered, degree-copy, degree-first, degree-second}
use Rattle.gadget_cap.proofs.GateLemmas.{weight-by_entered}
use Rattle.gadget_cap.proofs.Uses.{use-at}

-- counts that are given by places, by the gates
abbrev pub passage_of : Network → (ℕ → ℕ) → (ℕ → ℕ) → Passage
passage_of i room f = record {
  enter = λ k a j. f (gates_before i room k + (a * room k + j));
  cross = λ k j l. f (gates_before i room k + (value_u i k * room k + (j * room k + l)));
  leave = λ k l b. f (gates_before i room k + (value_u i k * room k + (room k * room k + (l * value_v i k + b))));
}

pub all-edges : (i : Network) (room : ℕ → ℕ) → length (capped_graph i room).edges ≡ gates_before i room (length i.edges)
all-edges i room =
    blocks-length (gated i room) (length i.edges)
    ∙ sum_to-same (λ k. length (gated i room k)) (gate_size i room) (length i.edges) (λ k _. gated-length i room k)

passage-block : (i : Network) (room : ℕ → ℕ) (f : ℕ → ℕ) (k : ℕ) → tabled (λ r. f (gates_before i room k + r)) (gate_size i room k) ≡ gate_counts i room (passage_of i room f) k
passage-block i room f k =
    let p = passage_of i room f in
    let r = room k in
    let m = value_u i k in
    let n = value_v i k in
    let g : ℕ → ℕ = λ y. f (gates_before i room k + y) in
    let one : tabled g (m * r) ≡ table (p.enter k) m r = tabled-rows g m r in
    let two : tabled (λ y. g (m * r + y)) (r * r) ≡ table (p.cross k) r r = tabled-rows (λ y. g (m * r + y)) r r in
    let three : tabled (λ y. g (m * r + (r * r + y))) (r * n) ≡ table (p.leave k) r n = tabled-rows (λ y. g (m * r + (r * r + y))) r n in
    tabled-three g (m * r) (r * r) (r * n)
    ∙ ap (λ xs. xs ++ (tabled (λ y. g (m * r + y)) (r * r) ++ tabled (λ y. g (m * r + (r * r + y))) (r * n))) one
    ∙ ap (λ xs. table (p.enter k) m r ++ (xs ++ tabled (λ y. g (m * r + (r * r + y))) (r * n))) two
    ∙ ap (λ xs. table (p.enter k) m r ++ (table (p.cross k) r r ++ xs)) three

-- all counts of the graph are those of a passage
pub passage-all : (i : Network) (room : ℕ → ℕ) (f : ℕ → ℕ) → tabled f (length (capped_graph i room).edges) ≡ all_counts i room (passage_of i room f)
passage-all i room f =
    ap (tabled f) (all-edges i room)
    ∙ tabled-blocks f (gate_size i room) (length i.edges)
    ∙ blocks-same (λ k. tabled (λ r. f (gates_before i room k + r)) (gate_size i room k)) (gate_counts i room (passage_of i room f)) (length i.edges) (λ k _. passage-block i room f k)

-- how often the first gate is left for the second, and the second is left
abbrev crossed : Network → (ℕ → ℕ) → Passage → ℕ → ℕ
crossed i room p k = sum_to (λ j. sum_to (p.cross k j) (room k)) (room k)

abbrev left : Network → (ℕ → ℕ) → Passage → ℕ → ℕ
left i room p k = sum_to (λ l. sum_to (p.leave k l) (value_v i k)) (room k)

first_gate : (i : Network) (room : ℕ → ℕ) (p : Passage) (k : ℕ) → IsNetwork i → FillsGates i room (all_counts i room p) → k < length i.edges
    → entered i room p k + crossed i room p k ≡ room k
first_gate i room p k net fills b =
    let r = room k in
    let m = value_u i k in
    let each = sum_to-ones (λ j. sum_to (λ a. p.enter k a j) m + sum_to (p.cross k j) r) r
    (λ j l. sym (degree-first i room p k net b j l) ∙ fills (before_gates i room k + j + 1) (omega arith) (omega (arith, sum_to-grows room k (length i.edges) b, l))) in
    omega (arith, each, sum_to-add (λ j. sum_to (λ a. p.enter k a j) m) (λ j. sum_to (p.cross k j) r) r, sum_to-swap (p.enter k) m r)

second_gate : (i : Network) (room : ℕ → ℕ) (p : Passage) (k : ℕ) → IsNetwork i → FillsGates i room (all_counts i room p) → k < length i.edges
    → crossed i room p k + left i room p k ≡ room k
second_gate i room p k net fills b =
    let r = room k in
    let n = value_v i k in
    let each = sum_to-ones (λ l. sum_to (λ j. p.cross k j l) r + sum_to (p.leave k l) n) r
    (λ l h. sym (degree-second i room p k net b l h) ∙ fills (before_gates i room k + r + l + 1) (omega arith) (omega (arith, sum_to-grows room k (length i.edges) b, h))) in
    omega (arith, each, sum_to-add (λ l. sum_to (λ j. p.cross k j l) r) (λ l. sum_to (p.leave k l) n) r, sum_to-swap (p.cross k) r r)

-- how often each edge is used
abbrev pub passed : Network → (ℕ → ℕ) → Passage → List ℕ
passed i room p = tabled (entered i room p) (length i.edges)

passed-at : (i : Network) (room : ℕ → ℕ) (p : Passage) (k : ℕ) → k < length i.edges → slice_index (passed i room p) k ≡ entered i room p k
passed-at i room p k b = tabled-at (entered i room p) (length i.edges) k 0 b

-- what holds of all copies of an end holds of those of vertex t + 1, if it is that end
at_end : (i : Network) (f : ℕ → ℕ) (u t : ℕ) → cond (eqb (u - 1) t) (sum_to f (value i t)) 0 ≡ cond (eqb (u - 1) t) (sum_to f (value i (u - 1))) 0
at_end i f u t =
    elim (cases_eq (u - 1) t) [
      | inl e ↦ ap (λ s. cond (eqb (u - 1) t) (sum_to f (value i s)) 0) (sym e)
      | inr d ↦ let off : eqb (u - 1) t ≡ false = ne_eqb (u - 1) t d in rw off refl
    ]

-- the copies of vertex t + 1 that an edge takes
edge-copies : (i : Network) (room : ℕ → ℕ) (p : Passage) (t k : ℕ) → IsNetwork i → FillsGates i room (all_counts i room p) → k < length i.edges
    → sum_to (λ c. cond (eqb ((instance_edge_at i k).u - 1) t)
    (sum_to (p.enter k c) (room k)) 0 + cond (eqb ((instance_edge_at i k).v - 1) t) (sum_to (λ l. p.leave k l c) (room k)) 0) (value i t) ≡ use_at i (passed i room p) (t + 1) k
edge-copies i room p t k net fills b =
    let u = (instance_edge_at i k).u in
    let v = (instance_edge_at i k).v in
    let r = room k in
    let E : ℕ → ℕ = λ c. sum_to (p.enter k c) r in
    let L : ℕ → ℕ = λ c. sum_to (λ l. p.leave k l c) r in
    let x = slice_index (passed i room p) k in
    let count = passed-at i room p k b in
    let enters : sum_to E (value_u i k) ≡ x = omega (arith, count) in
    let leaves : sum_to L (value_v i k) ≡ x = omega (arith, count, sum_to-swap (p.leave k) r (value_v i k), first_gate i room p k net fills b, second_gate i room p k net fills b) in
    let first = sum_to-cond (eqb (u - 1) t) E (value i t) ∙ at_end i E u t ∙ ap (λ y. cond (eqb (u - 1) t) y 0) enters in
    let second = sum_to-cond (eqb (v - 1) t) L (value i t) ∙ at_end i L v t ∙ ap (λ y. cond (eqb (v - 1) t) y 0) leaves in
    omega (arith, sum_to-add (λ c. cond (eqb (u - 1) t) (E c) 0) (λ c. cond (eqb (v - 1) t) (L c) 0) (value i t), first, second, use-at i (passed i room p) t k net b)

-- the degree of a vertex is that of its copies together
passed-degree : (i : Network) (room : ℕ → ℕ) (p : Passage) (t : ℕ) → IsNetwork i → FillsGates i room (all_counts i room p) → t < vertices i
    → degree (graph_of i) (passed i room p) (t + 1)
    ≡ sum_to (λ c. degree (capped_graph i room) (all_counts i room p) (below i t + c + 1)) (value i t)
passed-degree i room p t net fills b =
    let T : ℕ → ℕ → ℕ = λ c k. cond (eqb ((instance_edge_at i k).u - 1) t) (sum_to (p.enter k c) (room k)) 0 + cond (eqb ((instance_edge_at i k).v - 1) t) (sum_to (λ l. p.leave k l c)
    (room k)) 0 in
    degree-used i (passed i room p) (t + 1)
    ∙ sym (sum_to-same (λ k. sum_to (λ c. T c k) (value i t)) (use_at i (passed i room p) (t + 1)) (length i.edges) (λ k l. edge-copies i room p t k net fills l))
    ∙ sym (sum_to-swap T (value i t) (length i.edges))
    ∙ sym (sum_to-same (λ c. degree (capped_graph i room) (all_counts i room p) (below i t + c + 1)) (λ c. sum_to (T c) (length i.edges)) (value i t)
    (λ c l. degree-copy i room p t c b l))

passed-weight : (i : Network) (room : ℕ → ℕ) (p : Passage) → weight (graph_of i) (passed i room p) ≡ weight (capped_graph i room) (all_counts i room p)
passed-weight i room p =
    weight-used i (passed i room p)
    ∙ int_sum_to-same (λ k. pos (slice_index (passed i room p) k) *ℤ (instance_edge_at i k).w) (λ k. pos (entered i room p k) *ℤ (instance_edge_at i k).w) (length i.edges)
    (λ k b. ap (λ y. pos y *ℤ (instance_edge_at i k).w) (passed-at i room p k b))
    ∙ sym (weight-by_entered i room p)

-- counts of the graph with gates say these of the instance: within the rooms, with the degrees of the copies together, and of the same weight
pub record StandsFor (i : Network) (room : ℕ → ℕ) (taking counts : List ℕ) : Type 0 where
  pub one_each : HasCounts i counts
  pub rooms : (k : ℕ) → k < length i.edges → slice_index counts k ≤ room k
  pub degrees : (t : ℕ) → t < vertices i → degree (graph_of i) counts (t + 1) ≡ sum_to (λ c. degree (capped_graph i room) taking (below i t + c + 1)) (value i t)
  pub weighs : weight (graph_of i) counts ≡ weight (capped_graph i room) taking

pub passed-stands : (i : Network) (room : ℕ → ℕ) (p : Passage) → IsNetwork i → FillsGates i room (all_counts i room p) → StandsFor i room (all_counts i room p) (passed i room p)
passed-stands i room p net fills = record {
  one_each = tabled-length (entered i room p) (length i.edges);
  rooms = λ k b. omega (arith, first_gate i room p k net fills b, passed-at i room p k b);
  degrees = λ t b. passed-degree i room p t net fills b;
  weighs = passed-weight i room p;
}

-- where each copy has degree 1 too, the degrees are the values
pub stands-matching : (i : Network) (room : ℕ → ℕ) (taking counts : List ℕ) → IsPerfect (capped_graph i room) taking → StandsFor i room taking counts → IsBMatching i counts
stands-matching i room taking counts perfect stands = record {
  one_each = stands.one_each;
  degrees = λ v low high.
      let t = v - 1 in
      let at : t + 1 ≡ v = omega arith in
      subst (λ y. degree (graph_of i) counts y ≡ value i t) at
      (stands.degrees t (omega arith)
      ∙ sum_to-ones (λ c. degree (capped_graph i room) taking (below i t + c + 1)) (value i t)
      (λ c l. perfect.degrees (below i t + c + 1) (omega arith) (let under = copies-below i t c (omega arith) l in omega arith)));
}
