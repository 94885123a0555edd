-- What is left of a set and a walk over edges that were taken from it weigh together.
use Rattle.mb_problem.proofs.Common.{◌≡◌, ℕ, ◌+◌, ◌<◌, ℤ, pos, ◌+ℤ◌, ◌*ℤ◌, ◌≤ℤ◌, cond, eqb, ap, sym, ◌∙◌, arith, List, [], ◌∷◌, ◌++◌}
use Rattle.mb_problem.proofs.Common.{length, slice_index, ints, Edge, Multigraph, edge_at, edge_of, IsEdgeNumber, weight, walk_weight, int_sum_to-same, int_sum_to-add, int_sum_to-at_one}
use Rattle.mb_problem.proofs.Common.{plus-times, times-one_if, edge_of-place, weight-append, IsTaken, int_sum_to-none}

pub weight-taken : (g : Multigraph) (left after : List ℕ) (e : ℕ) → IsEdgeNumber g e → IsTaken e left after → weight g left ≡ weight g after +ℤ (edge_of g e).w
weight-taken g left after e is one =
    let m = length g.edges in
    let w : ℕ → ℤ = λ k. (edge_at g k).w in
    let here : ℕ → ℤ = λ k. cond (eqb e (k + 1)) (edge_of g (k + 1)).w (pos 0) in
    let parts = int_sum_to-same (λ k. pos (slice_index left k) *ℤ w k) (λ k. pos (slice_index after k) *ℤ w k +ℤ here k) m
    (λ k b.
    ap (λ (c : ℕ). pos c *ℤ w k) (sym (one k))
    ∙ plus-times (slice_index after k) (cond (eqb e (k + 1)) 1 0) (w k)
    ∙ ap (λ (x : ℤ). pos (slice_index after k) *ℤ w k +ℤ x)
    (times-one_if (eqb e (k + 1)) (w k) ∙ ap (λ (f : Edge). cond (eqb e (k + 1)) f.w (pos 0)) (sym (edge_of-place g k)))) in
    let both = int_sum_to-add (λ k. pos (slice_index after k) *ℤ w k) here m in
    omega (arith, ints, parts, both, int_sum_to-at_one (λ k. (edge_of g k).w) e m is.0 is.1)

one-weight : (g : Multigraph) (e : ℕ) → walk_weight g (e ∷ []) ≡ (edge_of g e).w
one-weight g e = omega (arith, ints)

-- an edge that goes from what is left to the walk
pub weight-push : (g : Multigraph) (left after way : List ℕ) (e : ℕ) → IsEdgeNumber g e → IsTaken e left after
    → (weight g after +ℤ walk_weight g (way ++ e ∷ [])) ≡ (weight g left +ℤ walk_weight g way)
weight-push g left after way e is one = omega (arith, ints, weight-taken g left after e is one, weight-append g way (e ∷ []), one-weight g e)

-- a part that weighs at least 0 goes
pub weight-front : (g : Multigraph) (front rest : List ℕ) → pos 0 ≤ℤ walk_weight g rest → walk_weight g front ≤ℤ walk_weight g (front ++ rest)
weight-front g front rest low = omega (arith, ints, low, weight-append g front rest)

-- nothing left weighs nothing
pub weight-none : (g : Multigraph) (left : List ℕ) → ((k : ℕ) → k < length g.edges → slice_index left k ≡ 0) → weight g left ≡ pos 0
weight-none g left none = int_sum_to-none (λ k. pos (slice_index left k) *ℤ (edge_at g k).w) (length g.edges) (λ k b. let e = none k b in rw e (omega (arith, ints)))
