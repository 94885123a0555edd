use Rattle.graph_theory.proofs.Common.{◌≡◌, ℕ, ◌+◌, ◌<◌, length, take, slice_index}
use Rattle.gadget_base.specs.Listed.{times}
use Rattle.gadget_base.proofs.plain.add_listed.Given as goal

abbrev pub invariant-loop-edge : goal.invariant-loop-edge
invariant-loop-edge l = record {
  size : length l.counts ≡ length l.initial.counts;
  each : (k : ℕ) → k < length l.initial.counts → slice_index l.counts k ≡ times (take l.edge-index l.edges) (k + 1);
}
