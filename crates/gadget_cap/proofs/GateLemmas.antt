-- Degrees and weights in the graph with two gates for each edge, for any counts.
use Rattle.mb_problem.proofs.Common.{◌≡◌, ◌≢◌, ℕ, ◌+◌, ◌*◌, ◌-◌, ◌<◌, ◌≤◌, pos, ◌*ℤ◌, cond, eqb, sym, ◌∙◌, subst, inl, inr, arith, List}
use Rattle.mb_problem.proofs.Common.{◌++◌, length, slice_index, ints, cases_lt, sum_to, int_sum_to, degree, weight, sum_to-same, Network, IsNetwork, vertices, instance_edge_at, value_of}
use Rattle.mb_problem.proofs.Common.{value_total, value_u, value_v, edge-ends, sum_to-grows, sum_to-only, find_block}
use Rattle.std.proofs.lemmas.List.{length-append}
use Rattle.mb_problem.specs.declared.instance.InstanceEdge.{InstanceEdge}
use Rattle.gadget_base.proofs.Common.{blocks, values_below, before_gates, gated, capped_graph, rectangle-length, at_vertex, weighing, table, nat-sum, int-sum, Sums, sums-append, sums-blocks}
use Rattle.gadget_base.proofs.Common.{sums-same, pick, pick-none, pick-here, pick-block, pick-plus, rectangle-picks, rectangle-weight, copies-inside}
use Rattle.gadget_cap.specs.Places.{gates_of, gate_size}

-- counts on the edges that stand for edge number k + 1: into the first gate, from gate to gate, and out of the second
pub record Passage : Type 0 where
  pub enter : ℕ → ℕ → ℕ → ℕ
  pub cross : ℕ → ℕ → ℕ → ℕ
  pub leave : ℕ → ℕ → ℕ → ℕ

abbrev pub gate_counts : Network → (ℕ → ℕ) → Passage → ℕ → List ℕ
gate_counts i room p k = table (p.enter k) (value_u i k) (room k) ++ (table (p.cross k) (room k) (room k) ++ table (p.leave k) (room k) (value_v i k))

abbrev pub all_counts : Network → (ℕ → ℕ) → Passage → List ℕ
all_counts i room p = blocks (gate_counts i room p) (length i.edges)

pub gates_of-length : (i : Network) (e : InstanceEdge) (before r : ℕ) → length (gates_of i e before r) ≡ value_of i e.u * r + (r * r + r * value_of i e.v)
gates_of-length i e before r = simp (length-append, rectangle-length)

pub gated-length : (i : Network) (room : ℕ → ℕ) (k : ℕ) → length (gated i room k) ≡ gate_size i room k
gated-length i room k = gates_of-length i (instance_edge_at i k) (before_gates i room k) (room k)

-- what the edges that stand for edge number k + 1 count at the places of its gates

abbrev pub at_first : Network → (ℕ → ℕ) → Passage → ℕ → ℕ → ℕ
at_first i room p k j = sum_to (λ a. p.enter k a j) (value_u i k) + sum_to (p.cross k j) (room k)

abbrev pub at_second : Network → (ℕ → ℕ) → Passage → ℕ → ℕ → ℕ
at_second i room p k l = sum_to (λ j. p.cross k j l) (room k) + sum_to (p.leave k l) (value_v i k)

-- .. and at vertex q + 1
abbrev pub gate_terms : Network → (ℕ → ℕ) → Passage → ℕ → ℕ → ℕ
gate_terms i room p q k =
    pick (values_below i (instance_edge_at i k).u) (value_u i k) (λ a. sum_to (p.enter k a) (room k)) q
    + pick (before_gates i room k) (room k) (at_first i room p k) q
    + pick (before_gates i room k + room k) (room k) (at_second i room p k) q
    + pick (values_below i (instance_edge_at i k).v) (value_v i k) (λ b. sum_to (λ l. p.leave k l b) (room k)) q

-- sums over all edges

all-picks : (i : Network) (room : ℕ → ℕ) (p : Passage) (q : ℕ) → Sums sum_to (at_vertex (q + 1)) (capped_graph i room).edges (all_counts i room p)
    (sum_to (gate_terms i room p q) (length i.edges))
all-picks i room p q =
    sums-blocks nat-sum (length i.edges)
    (λ k _.
    let r = room k in
    let before = before_gates i room k in
    let one = rectangle-picks (values_below i (instance_edge_at i k).u) (value_u i k) before r (instance_edge_at i k).w (p.enter k) q in
    let three = rectangle-picks (before + r) r (values_below i (instance_edge_at i k).v) (value_v i k) (pos 0) (p.leave k) q in
    let first = pick-plus before r (λ j. sum_to (λ a. p.enter k a j) (value_u i k)) (λ j. sum_to (p.cross k j) r) q in
    let second = pick-plus (before + r) r (λ l. sum_to (λ j. p.cross k j l) r) (λ l. sum_to (p.leave k l) (value_v i k)) q in
    sums-same (sums-append nat-sum one (sums-append nat-sum (rectangle-picks before r (before + r) r (pos 0) (p.cross k) q) three)) (omega (arith, first, second)))

pub all-one_each : (i : Network) (room : ℕ → ℕ) (p : Passage) → length (all_counts i room p) ≡ length (capped_graph i room).edges
all-one_each i room p = sym (all-picks i room p 0).one_each

-- the value of vertex t + 1, and the values of the vertices before it

abbrev pub value : Network → ℕ → ℕ
value i t = slice_index i.values t

abbrev pub below : Network → ℕ → ℕ
below i t = sum_to (value i) t

pub copies-below : (i : Network) (t c : ℕ) → t < vertices i → c < value i t → below i t + c < value_total i
copies-below i t c b l =
    let grows = sum_to-grows (value i) t (vertices i) b in
    omega arith

-- the degree of copy c of vertex t + 1
pub degree-copy : (i : Network) (room : ℕ → ℕ) (p : Passage) (t c : ℕ) → t < vertices i → c < value i t → degree (capped_graph i room) (all_counts i room p) (below i t + c + 1)
    ≡ sum_to (λ k. cond (eqb ((instance_edge_at i k).u - 1) t) (sum_to (p.enter k c) (room k)) 0 + cond (eqb ((instance_edge_at i k).v - 1) t) (sum_to (λ l. p.leave k l c) (room k)) 0)
    (length i.edges)
degree-copy i room p t c b l =
    (all-picks i room p (below i t + c)).is
    ∙ sum_to-same _ _ (length i.edges)
    (λ k _.
    let low = copies-below i t c b l in
    let first = pick-block (value i) (λ a. sum_to (p.enter k a) (room k)) ((instance_edge_at i k).u - 1) t c l in
    let second = pick-none (before_gates i room k) (room k) (at_first i room p k) (below i t + c) (λ j _ h. omega arith) in
    let fourth = pick-block (value i) (λ b. sum_to (λ l. p.leave k l b) (room k)) ((instance_edge_at i k).v - 1) t c l in
    omega (arith, first, second, pick-none (before_gates i room k + room k) (room k) (at_second i room p k) (below i t + c) (λ j _ h. omega arith), fourth))

-- the vertices of gates

-- no copy is one
no-copy : (i : Network) (room : ℕ → ℕ) (t p x : ℕ) (f : ℕ → ℕ) → 1 ≤ t → t ≤ vertices i → pick (values_below i t) (value_of i t) f (before_gates i room p + x) ≡ 0
no-copy i room t p x f low high = pick-none _ _ f _ (λ a l h. omega (arith, copies-inside i t low high))

gates-apart : (i : Network) (room : ℕ → ℕ) (k p x y : ℕ) → k ≢ p → x < 2 * room k → y < 2 * room p → before_gates i room k + x ≢ before_gates i room p + y
gates-apart i room k p x y differ b b' h =
    elim (cases_lt k p) [
      | inl l ↦ let grows = sum_to-grows room k p l in omega arith
      | inr m ↦ let grows = sum_to-grows room p k (omega arith) in omega arith
    ]

module _ (i : Network) (room : ℕ → ℕ) (p : Passage) (k : ℕ) (net : IsNetwork i) (l : k < length i.edges) where
  -- the degree of a vertex of the gates of edge number k + 1: other edges count nothing there, and copies neither
  degree-gate : (x : ℕ) → x < 2 * room k → degree (capped_graph i room) (all_counts i room p) (before_gates i room k + x + 1)
      ≡ pick (before_gates i room k) (room k) (at_first i room p k) (before_gates i room k + x)
      + pick (before_gates i room k + room k) (room k) (at_second i room p k) (before_gates i room k + x)
  degree-gate x b =
      let q = before_gates i room k + x in
      let enter : ℕ → ℕ → ℕ = λ o a. sum_to (p.enter o a) (room o) in
      let leave : ℕ → ℕ → ℕ = λ o b. sum_to (λ l. p.leave o l b) (room o) in
      let single = sum_to-only (gate_terms i room p q) k (length i.edges) l
      (λ o l' d.
      let is = edge-ends i o net l' in
      let second = pick-none (before_gates i room o) (room o) (at_first i room p o) q (λ j h. gates-apart i room o k j x d (omega arith) b) in
      let third = pick-none (before_gates i room o + room o) (room o) (at_second i room p o) q (λ j h z. gates-apart i room o k (room o + j) x d (omega arith) b (omega arith)) in
      omega (arith, no-copy i room (instance_edge_at i o).u k x (enter o) is.u_low is.u_high, second, third, no-copy i room (instance_edge_at i o).v k x (leave o) is.v_low is.v_high)) in
      let is = edge-ends i k net l in
      let last = no-copy i room (instance_edge_at i k).v k x (leave k) is.v_low is.v_high in
      omega (arith, (all-picks i room p q).is, single, no-copy i room (instance_edge_at i k).u k x (enter k) is.u_low is.u_high, last)

  -- .. of the first gate
  pub degree-first : (j : ℕ) → j < room k → degree (capped_graph i room) (all_counts i room p) (before_gates i room k + j + 1) ≡ at_first i room p k j
  degree-first j b =
      let before = before_gates i room k in
      let other = pick-none (before + room k) (room k) (at_second i room p k) (before + j) (λ y h z. omega arith) in
      omega (arith, degree-gate j (omega arith), pick-here before (room k) (at_first i room p k) j b, other)

  -- .. of the second gate
  pub degree-second : (y : ℕ) → y < room k → degree (capped_graph i room) (all_counts i room p) (before_gates i room k + room k + y + 1) ≡ at_second i room p k y
  degree-second y b =
      let r = room k in
      let before = before_gates i room k in
      let at : before + (r + y) ≡ before + r + y = omega arith in
      let whole = rw at at (degree-gate (r + y) (omega arith)) in
      omega (arith, whole, pick-here (before + r) r (at_second i room p k) y b, pick-none before r (at_first i room p k) (before + r + y) (λ j h z. omega arith))

-- how often the first gate of edge number k + 1 is entered
abbrev pub entered : Network → (ℕ → ℕ) → Passage → ℕ → ℕ
entered i room p k = sum_to (λ a. sum_to (p.enter k a) (room k)) (value_u i k)

pub weight-by_entered : (i : Network) (room : ℕ → ℕ) (p : Passage) → weight (capped_graph i room) (all_counts i room p)
    ≡ int_sum_to (λ k. pos (entered i room p k) *ℤ (instance_edge_at i k).w) (length i.edges)
weight-by_entered i room p =
    let each : (k : ℕ) → Sums int_sum_to weighing (gated i room k) (gate_counts i room p k) (pos (entered i room p k) *ℤ (instance_edge_at i k).w) = λ k.
    let r = room k in
    let before = before_gates i room k in
    let one = rectangle-weight (p.enter k) (values_below i (instance_edge_at i k).u) (value_u i k) before r (instance_edge_at i k).w in
    let three = rectangle-weight (p.leave k) (before + r) r (values_below i (instance_edge_at i k).v) (value_v i k) (pos 0) in
    sums-same (sums-append int-sum one (sums-append int-sum (rectangle-weight (p.cross k) before r (before + r) r (pos 0)) three)) (omega (arith, ints)) in
    (sums-blocks int-sum (length i.edges) (λ k _. each k)).is

-- each vertex of the graph is a copy or stands in a gate
pub copies_and_gates : (i : Network) (room : ℕ → ℕ) (P : ℕ → Type 0) → ((t c : ℕ) → t < vertices i → c < value i t → P (below i t + c + 1))
    → ((v : ℕ) → value_total i < v
    → v ≤ before_gates i room (length i.edges) → P v) → (v : ℕ) → 1 ≤ v → v ≤ before_gates i room (length i.edges) → P v
copies_and_gates i room P copies gates v low high =
    elim (cases_lt (v - 1) (value_total i)) [
      | inl copy ↦
          let found = find_block (value i) (vertices i) (v - 1) copy in
          let is = found.is in
          let at : below i found.block + found.place + 1 ≡ v = omega arith in
          subst P at (copies found.block found.place found.block_low found.place_low)
      | inr gate ↦ gates v (omega arith) high
    ]

-- each vertex of a gate has degree 1
abbrev pub FillsGates : Network → (ℕ → ℕ) → List ℕ → Type 0
FillsGates i room taking = (v : ℕ) → value_total i < v → v ≤ before_gates i room (length i.edges) → degree (capped_graph i room) taking v ≡ 1
