use Rattle.mb_problem.proofs.Common.{◌≡◌, int_sum_to}
use Rattle.join_check.specs.Checks.{at}
use Rattle.join_check.proofs.paid.length_sum.Given as goal

abbrev pub invariant-loop-length : goal.invariant-loop-length
invariant-loop-length l = l.sum ≡ int_sum_to (at l.lengths) l.length-index
