use Rattle.graph_theory.proofs.Common.{◌≡◌, ◌*ℤ◌, pos, neg_ℤ, ◌≤ℤ◌, int_sum_to, given_at}
use Rattle.graph_theory.specs.declared.limits.TheConstants.{NUMBER_LIMIT}
use Rattle.dual_check.proofs.sets.set_total.Given as goal

abbrev pub invariant-loop-set : goal.invariant-loop-set
invariant-loop-set l = (l.total ≡ int_sum_to (λ j. (given_at l.sets j).dual) l.set-index) × ((neg_ℤ NUMBER_LIMIT *ℤ pos l.set-index) ≤ℤ l.total)
    × (l.total ≤ℤ (NUMBER_LIMIT *ℤ pos l.set-index))
