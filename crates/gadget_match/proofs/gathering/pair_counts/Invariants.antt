use Rattle.mb_problem.proofs.Common.{◌≡◌, ℕ, ◌<◌, length, slice_index, copy_pairs}
use Rattle.gadget_match.proofs.gathering.pair_counts.Given as goal

abbrev pub invariant-loop-edge : goal.invariant-loop-edge
invariant-loop-edge l = record {
  size : length l.counts.items ≡ l.edge-index;
  each : (k : ℕ) → k < l.edge-index → slice_index l.counts.items k ≡ copy_pairs l.instance k;
}
