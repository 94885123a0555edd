use Rattle.mb_problem.proofs.Common.{◌≡◌, ℕ, ◌<◌, cond, length, slice_index}
use Rattle.join_check.specs.Forests.{is_turned}
use Rattle.join_check.proofs.flags.negative_counts.Given as goal

abbrev pub invariant-loop-place : goal.invariant-loop-place
invariant-loop-place l = record {
  size : length l.counts.items ≡ length l.instance.edges;
  each : (k : ℕ) → k < l.place → slice_index l.counts.items k ≡ cond (is_turned l.instance k) 1 0;
}
