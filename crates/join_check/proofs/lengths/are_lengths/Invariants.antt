use Rattle.mb_problem.proofs.Common.{◌≡◌, ℕ, ◌<◌, pos, ◌≤ℤ◌, int_sum_to}
use Rattle.join_check.specs.declared.lengths.TheConstants.{LENGTH_LIMIT}
use Rattle.join_check.specs.Checks.{at}
use Rattle.join_check.proofs.lengths.are_lengths.Given as goal

abbrev pub invariant-loop-node : goal.invariant-loop-node
invariant-loop-node l = record {
  outside : 0 < l.node → at l.lengths 0 ≡ pos 0;
  from_zero : (b : ℕ) → b < l.node → pos 0 ≤ℤ at l.lengths b;
  sum : l.sum ≡ int_sum_to (at l.lengths) l.node;
  low : pos 0 ≤ℤ l.sum;
  high : l.sum ≤ℤ LENGTH_LIMIT;
}
