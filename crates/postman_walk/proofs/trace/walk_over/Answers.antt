use Rattle.mb_problem.proofs.Common.{◌≡◌, ℕ, ◌+◌, ◌≤◌, List, length, replicate, slice_index, ap, ◌∙◌, arith, length-replicate, get_or-replicate}
use Rattle.postman_walk.proofs.trace.walk_over.Goals as goal

pub walk_on-requires-clause-passed : goal.walk_on-requires-clause-passed
walk_on-requires-clause-passed c =
    let n = c.vertices.result + 1 in
    let count = c.vertices.ensures.count in
    let zeros : c.deref_mut.result.now ≡ replicate n 0 = c.deref_mut.ensures.value ∙ c.in_ok-cursors.ensures.items_if_clones_equal (λ y h. h) in
    let zero : (v : ℕ) → v ≤ c.args.graph.now.vertices → slice_index c.deref_mut.result.now v ≡ 0 =
    λ v b. ap (λ (xs : List ℕ). slice_index xs v) zeros ∙ get_or-replicate n v 0 0 (omega (arith, b, count)) in
    let size = ap length zeros ∙ length-replicate n 0 ∙ ap (λ (x : ℕ). x + 1) count in
    record { size = size; within = λ v b. omega (arith, zero v b); none = λ v b j low. absurd (omega (arith, zero v b, low)) }
