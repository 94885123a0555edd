use Rattle.mb_problem.proofs.Common.{◌≡◌, ℕ, pos, cond, eqb, length, slice_index, int_sum_to}
use Rattle.join_check.specs.Checks.{at}
use Rattle.join_check.proofs.tops.add_lengths.Given as goal

abbrev pub invariant-loop-node : goal.invariant-loop-node
invariant-loop-node l = record {
  one_each : length l.starts ≡ length l.lengths;
  each : (x : ℕ) → at l.starts x ≡ int_sum_to (λ b. cond (eqb (slice_index l.befores b) x) (at l.lengths b) (pos 0)) l.node;
}
