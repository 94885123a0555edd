-- The handshake lemma: what is summed over both ends of each edge is summed over the vertices, each as often as its degree says.
use Rattle.std.proofs.Common.{◌≡◌, ℕ, ◌+◌, ◌*◌, ℤ, pos, ◌+ℤ◌, ◌*ℤ◌, cond, eqb, sym, ◌∙◌, arith, List, length, slice_index, All}
use Rattle.std.proofs.lemmas.Int.{ints}
use Rattle.graph_theory.specs.Sums.{int_sum_to}
use Rattle.graph_theory.specs.declared.edge.Edge.{Edge}
use Rattle.graph_theory.specs.Graph.{Multigraph, IsEdgeWithin, no_edge, edge_at, ends_at, degree, IsPerfect}
use Rattle.graph_theory.proofs.SumLemmas.{int_sum_to-same, int_sum_to-add, int_sum_to-swap, int_sum_to-at_one, times-add, times-times, plus-times, sum_to-times, times-one_if}

-- an end that is v, or not
two_ends : (e : Edge) (v : ℕ) (a : ℤ) → pos (ends_at e v) *ℤ a ≡ cond (eqb e.u v) a (pos 0) +ℤ cond (eqb e.v v) a (pos 0)
two_ends e v a = omega (arith, ints, plus-times (cond (eqb e.u v) 1 0) (cond (eqb e.v v) 1 0) a, times-one_if (eqb e.u v) a, times-one_if (eqb e.v v) a)

-- of the vertices 1 to n, the two ends of an edge are counted
pub over_ends : (f : ℕ → ℤ) (n : ℕ) (e : Edge) → IsEdgeWithin n e → int_sum_to (λ i. pos (ends_at e (i + 1)) *ℤ f (i + 1)) n ≡ f e.u +ℤ f e.v
over_ends f n e within =
    let left : ℕ → ℤ = λ i. cond (eqb e.u (i + 1)) (f (i + 1)) (pos 0) in
    let right : ℕ → ℤ = λ i. cond (eqb e.v (i + 1)) (f (i + 1)) (pos 0) in
    let both = int_sum_to-add left right n in
    let one = int_sum_to-at_one f e.u n within.u_low within.u_high in
    let other = int_sum_to-at_one f e.v n within.v_low within.v_high in
    omega (arith, ints, int_sum_to-same (λ i. pos (ends_at e (i + 1)) *ℤ f (i + 1)) (λ i. left i +ℤ right i) n (λ i b. two_ends e (i + 1) (f (i + 1))), both, one, other)

pub handshake : (g : Multigraph) (counts : List ℕ) (f : ℕ → ℤ) → All (IsEdgeWithin g.vertices) g.edges
    → int_sum_to (λ k. pos (slice_index counts k) *ℤ (f (edge_at g k).u +ℤ f (edge_at g k).v)) (length g.edges) ≡ int_sum_to (λ i. pos (degree g counts (i + 1)) *ℤ f (i + 1)) g.vertices
handshake g counts f ends =
    let m = length g.edges in
    let n = g.vertices in
    let c : ℕ → ℕ = λ k. slice_index counts k in
    let at : ℕ → ℕ → ℕ = λ k i. ends_at (edge_at g k) (i + 1) in
    let term : ℕ → ℕ → ℤ = λ k i. pos (at k i) *ℤ (pos (c k) *ℤ f (i + 1)) in
    let spread = int_sum_to-same (λ k. pos (c k) *ℤ (f (edge_at g k).u +ℤ f (edge_at g k).v)) (λ k. int_sum_to (term k) n) m
    (λ k b. omega (arith, ints, times-add (c k) (f (edge_at g k).u) (f (edge_at g k).v), over_ends (λ v. pos (c k) *ℤ f v) n (edge_at g k) (ends k no_edge b))) in
    let gathered = int_sum_to-same (λ i. pos (degree g counts (i + 1)) *ℤ f (i + 1)) (λ i. int_sum_to (λ k. term k i) m) n
    (λ i b.
    sum_to-times (λ k. c k * at k i) (f (i + 1)) m
    ∙ int_sum_to-same (λ k. pos (c k * at k i) *ℤ f (i + 1)) (λ k. term k i) m
    (λ k b'. let turn : c k * at k i ≡ at k i * c k = grind arith in rw turn (times-times (at k i) (c k) (f (i + 1))))) in
    spread ∙ int_sum_to-swap term m n ∙ sym gathered

-- where each degree is 1, each vertex counts once
pub handshake-perfect : (g : Multigraph) (counts : List ℕ) (f : ℕ → ℤ) → All (IsEdgeWithin g.vertices) g.edges → IsPerfect g counts
    → int_sum_to (λ k. pos (slice_index counts k) *ℤ (f (edge_at g k).u +ℤ f (edge_at g k).v)) (length g.edges) ≡ int_sum_to (λ i. f (i + 1)) g.vertices
handshake-perfect g counts f ends perfect =
    handshake g counts f ends
    ∙ int_sum_to-same (λ i. pos (degree g counts (i + 1)) *ℤ f (i + 1)) (λ i. f (i + 1)) g.vertices
    (λ i b. let one : degree g counts (i + 1) ≡ 1 = perfect.degrees (i + 1) (omega arith) (omega arith) in rw one (omega (arith, ints)))
