use Rattle.graph_theory.proofs.Common.{◌≡◌, ◌*ℤ◌, pos, neg_ℤ, ◌≤ℤ◌, slice_index_or, int_sum_to}
use Rattle.graph_theory.specs.declared.limits.TheConstants.{NUMBER_LIMIT}
use Rattle.dual_check.proofs.duals.vertex_total.Given as goal

abbrev pub invariant-loop-a : goal.invariant-loop-a
invariant-loop-a l =
    (l.total ≡ int_sum_to (λ k. slice_index_or l.y k (pos 0)) l.a-index) × ((neg_ℤ NUMBER_LIMIT *ℤ pos l.a-index) ≤ℤ l.total) × (l.total ≤ℤ (NUMBER_LIMIT *ℤ pos l.a-index))
