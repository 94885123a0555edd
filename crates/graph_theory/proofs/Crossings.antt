-- Lemmas on the edges that cross a set of vertices: their number has the parity of the sum of the degrees in the set.
use Rattle.std.proofs.Common.{◌≡◌, ℕ, ◌+◌, ◌*◌, ◌%◌, ◌≤◌, ℤ, pos, ◌+ℤ◌, ◌*ℤ◌, Bool, true, false, cond, not, refl, sym, ap₂, ◌∙◌, arith, List}
use Rattle.std.proofs.Common.{length, slice_index, All}
use Rattle.std.specs.List.Sorted.{IsStrictlyIncreasing}
use Rattle.std.proofs.lemmas.Int.{ints}
use Rattle.graph_theory.specs.Sums.{sum_to, int_sum_to}
use Rattle.graph_theory.specs.Graph.{Multigraph, IsEdgeWithin, edge_at, degree, IsPerfect}
use Rattle.graph_theory.specs.declared.edge.Edge.{Edge}
use Rattle.graph_theory.specs.Parts.{holds, crosses}
use Rattle.graph_theory.specs.Nested.{AreSame}
use Rattle.graph_theory.proofs.SumLemmas.{sum_to-same, int_sum_to-same, int_sum_to-add, int_sum_to-swap, int_sum_to-pos, times-int_sum_to, times-cond, cond-times, sum_to-times}
use Rattle.graph_theory.proofs.Handshake.{handshake}
use Rattle.graph_theory.proofs.Members.{members_counted}

-- the same vertices in another order are crossed by the same edges
pub crosses-same : (xs ys : List ℕ) (e : Edge) → AreSame xs ys → crosses xs e ≡ crosses ys e
crosses-same xs ys e same = ap₂ (λ (p q : Bool). cond p (not q) q) (same e.u) (same e.v)

-- how often the counted edges cross a set
abbrev pub crossings : Multigraph → List ℕ → List ℕ → ℕ
crossings g counts s = sum_to (λ k. cond (crosses s (edge_at g k)) (slice_index counts k) 0) (length g.edges)

-- how often they lie within it
abbrev pub insides : Multigraph → List ℕ → List ℕ → ℕ
insides g counts s = sum_to (λ k. cond (holds s (edge_at g k).u) (cond (holds s (edge_at g k).v) (slice_index counts k) 0) 0) (length g.edges)

-- the sum of the degrees of the members
abbrev pub degree_sum : Multigraph → List ℕ → List ℕ → ℕ
degree_sum g counts s = sum_to (λ i. cond (holds s (i + 1)) (degree g counts (i + 1)) 0) g.vertices

-- an edge counts once for each end in the set
cross_or_within : (p q : Bool) (c : ℕ) → pos c *ℤ (cond p (pos 1) (pos 0) +ℤ cond q (pos 1) (pos 0)) ≡ pos (cond (cond p (not q) q) c 0) +ℤ (pos (cond p (cond q c 0) 0) +ℤ pos
    (cond p (cond q c 0) 0))
cross_or_within true true c = omega (arith, ints)
cross_or_within true false c = omega (arith, ints)
cross_or_within false true c = omega (arith, ints)
cross_or_within false false c = omega (arith, ints)

one_if-times : (t : Bool) (d : ℕ) → pos d *ℤ cond t (pos 1) (pos 0) ≡ pos (cond t d 0)
one_if-times true d = omega (arith, ints)
one_if-times false d = omega (arith, ints)

pos-cond : (t : Bool) → pos (cond t 1 0) ≡ cond t (pos 1) (pos 0)
pos-cond true = refl
pos-cond false = refl

-- edges within the set count twice there, edges that cross it once
pub degrees_in_set : (g : Multigraph) (counts s : List ℕ) → All (IsEdgeWithin g.vertices) g.edges → degree_sum g counts s ≡ 2 * insides g counts s + crossings g counts s
degrees_in_set g counts s ends =
    let m = length g.edges in
    let one : ℕ → ℤ = λ v. cond (holds s v) (pos 1) (pos 0) in
    let inside : ℕ → ℕ = λ k. cond (holds s (edge_at g k).u) (cond (holds s (edge_at g k).v) (slice_index counts k) 0) 0 in
    let across : ℕ → ℕ = λ k. cond (crosses s (edge_at g k)) (slice_index counts k) 0 in
    let held : ℕ → ℕ = λ i. cond (holds s (i + 1)) (degree g counts (i + 1)) 0 in
    let at_vertices = int_sum_to-same (λ i. pos (degree g counts (i + 1)) *ℤ one (i + 1)) (λ i. pos (held i)) g.vertices (λ i b. one_if-times (holds s (i + 1)) (degree g counts (i + 1))) in
    let parts = int_sum_to-same (λ k. pos (slice_index counts k) *ℤ (one (edge_at g k).u +ℤ one (edge_at g k).v)) (λ k. pos (across k) +ℤ (pos (inside k) +ℤ pos (inside k))) m
    (λ k b. cross_or_within (holds s (edge_at g k).u) (holds s (edge_at g k).v) (slice_index counts k)) in
    let split = int_sum_to-add (λ k. pos (across k)) (λ k. pos (inside k) +ℤ pos (inside k)) m in
    let second = int_sum_to-pos inside m in
    let third = int_sum_to-pos held g.vertices in
    omega (arith, ints, handshake g counts one ends, at_vertices, parts, split, int_sum_to-add (λ k. pos (inside k)) (λ k. pos (inside k)) m, int_sum_to-pos across m, second, third)

-- where each degree is 1, the degrees in a set add up to its size
pub degree_sum-perfect : (g : Multigraph) (counts s : List ℕ) → IsPerfect g counts → IsStrictlyIncreasing s → All (λ m. (1 ≤ m) × (m ≤ g.vertices)) s → degree_sum g counts s ≡ length s
degree_sum-perfect g counts s perfect ascending within =
    let one : ℕ → ℕ = λ i. cond (holds s (i + 1)) 1 0 in
    let same = sum_to-same (λ i. cond (holds s (i + 1)) (degree g counts (i + 1)) 0) one g.vertices
    (λ i b. let d : degree g counts (i + 1) ≡ 1 = perfect.degrees (i + 1) (omega arith) (omega arith) in rw d refl) in
    let terms = int_sum_to-same (λ i. pos (one i)) (λ i. cond (holds s (i + 1)) (pos 1) (pos 0)) g.vertices (λ i b. pos-cond (holds s (i + 1))) in
    omega (arith, ints, same, int_sum_to-pos one g.vertices, members_counted g.vertices s ascending within, terms)

-- a perfect matching crosses a set of odd size at least once
pub crosses_odd : (g : Multigraph) (counts s : List ℕ) → All (IsEdgeWithin g.vertices) g.edges → IsPerfect g counts → length s % 2 ≡ 1 → IsStrictlyIncreasing s
    → All (λ m. (1 ≤ m) × (m ≤ g.vertices)) s → 1 ≤ crossings g counts s
crosses_odd g counts s ends perfect odd ascending within =
    omega (arith, degrees_in_set g counts s ends, degree_sum-perfect g counts s perfect ascending within, odd)

-- what the counted edges cross, set by set
pub crossing_sums : (g : Multigraph) (counts : List ℕ) (members : ℕ → List ℕ) (z : ℕ → ℤ) (p : ℕ) → int_sum_to (λ k. pos (slice_index counts k) *ℤ int_sum_to
    (λ j. cond (crosses (members j) (edge_at g k)) (z j) (pos 0)) p) (length g.edges) ≡ int_sum_to (λ j. pos (crossings g counts (members j)) *ℤ z j) p
crossing_sums g counts members z p =
    let m = length g.edges in
    let c : ℕ → ℕ = λ k. slice_index counts k in
    let cross : ℕ → ℕ → Bool = λ k j. crosses (members j) (edge_at g k) in
    let term : ℕ → ℕ → ℤ = λ k j. cond (cross k j) (pos (c k) *ℤ z j) (pos 0) in
    let spread = int_sum_to-same (λ k. pos (c k) *ℤ int_sum_to (λ j. cond (cross k j) (z j) (pos 0)) p) (λ k. int_sum_to (term k) p) m
    (λ k b. times-int_sum_to (c k) (λ j. cond (cross k j) (z j) (pos 0)) p ∙ int_sum_to-same (λ j. pos (c k) *ℤ cond (cross k j) (z j) (pos 0)) (term k) p
    (λ j b'. times-cond (cross k j) (c k) (z j))) in
    let gathered = int_sum_to-same (λ j. pos (crossings g counts (members j)) *ℤ z j) (λ j. int_sum_to (λ k. term k j) m) p
    (λ j b. sum_to-times (λ k. cond (cross k j) (c k) 0) (z j) m ∙ int_sum_to-same (λ k. pos (cond (cross k j) (c k) 0) *ℤ z j) (λ k. term k j) m
    (λ k b'. cond-times (cross k j) (c k) (z j))) in
    spread ∙ int_sum_to-swap term m p ∙ sym gathered
