-- How many ends of edges there are at different vertices but for those in inner nodes, as a sum over all vertices.
use Rattle.alt_forest.proofs.Common.{◌≡◌, ℕ, ◌+◌, Bool, true, false, not, eqb, cond, List, [], ◌∷◌, length, refl, sym, ap, ◌∙◌, arith, eqb-true, both_ways}
use Rattle.alt_forest.proofs.Common.{edges_around, holds, sum_to, sum_to-zero, sum_to-same, sum_to-add, sum_to-at_one, is_vertex, outermost, AllNew, first_in, later_in, vertex_range, Label}
use Rattle.alt_forest.proofs.Common.{either_term as either, Outer, Inner, Out, State, is_label, ends_looked}

-- the ends at a vertex, none in an inner node
abbrev pub looked : State → ℕ → ℕ
looked s v = cond (is_label (s.label (outermost s.blossoms v)) Inner) 0 (length (edges_around s.graph v))

-- each of the vertices counts once
pub looked_sum : (s : State) (n : ℕ) (vs : List ℕ) → AllNew vs → ((v : ℕ) → holds vs v ≡ true → is_vertex n v ≡ true)
    → ends_looked s vs ≡ sum_to (λ i. cond (holds vs (i + 1)) (looked s (i + 1)) 0) n
looked_sum s n [] new vertex = sym (sum_to-zero n)
looked_sum s n (x ∷ xs) new vertex =
    let range = vertex_range n x (vertex x (first_in x xs)) in
    let rest = looked_sum s n xs new.1 (λ v m. vertex v (later_in x xs v m)) in
    let here = sum_to-at_one (looked s) x n range.0 range.1 in
    let both = sum_to-add (λ i. cond (eqb x (i + 1)) (looked s (i + 1)) 0) (λ i. cond (holds xs (i + 1)) (looked s (i + 1)) 0) n in
    let parts =
    sum_to-same (λ i. cond (holds (x ∷ xs) (i + 1)) (looked s (i + 1)) 0) (λ i. cond (eqb x (i + 1)) (looked s (i + 1)) 0 + cond (holds xs (i + 1)) (looked s (i + 1)) 0) n
    (λ k b. either (eqb x (k + 1)) (holds xs (k + 1)) (looked s (k + 1)) (λ e m. both_ways (holds xs x) new.0 (ap (holds xs) (eqb-true x (k + 1) e) ∙ m))) in
    omega (arith, rest, here, both, parts)

by_label : (l : Label) (d : ℕ) → cond (is_label l Inner) 0 d + cond (not (is_label l Outer)) d 0 ≡ d + cond (is_label l Out) d 0
by_label Outer d = omega arith
by_label Inner d = omega arith
by_label Out d = omega arith

-- of a vertex that was in an inner node, or whose node's label stays
pub looked_term : (before after : Label) (m : Bool) (d : ℕ) → (m ≡ true → before ≡ Inner) → (m ≡ false → after ≡ before)
    → cond m (cond (is_label after Inner) 0 d) 0 + (cond (not (is_label after Outer)) d 0 + cond (is_label before Out) d 0)
    ≡ cond (not (is_label before Outer)) d 0 + cond (is_label after Out) d 0
looked_term before after true d inner same =
    let outside : cond (not (is_label before Outer)) d 0 ≡ d = ap (λ l. cond (not (is_label l Outer)) d 0) (inner refl) in
    let out : cond (is_label before Out) d 0 ≡ 0 = ap (λ l. cond (is_label l Out) d 0) (inner refl) in
    omega (arith, outside, out, by_label after d)
looked_term before after false d inner same =
    let outside : cond (not (is_label after Outer)) d 0 ≡ cond (not (is_label before Outer)) d 0 = ap (λ l. cond (not (is_label l Outer)) d 0) (same refl) in
    let out : cond (is_label after Out) d 0 ≡ cond (is_label before Out) d 0 = ap (λ l. cond (is_label l Out) d 0) (same refl) in
    omega (arith, outside, out)
