use Rattle.graph_theory.proofs.Common.{◌≡◌, ℕ, ◌<◌, ◌≤◌, length, take, slice_index}
use Rattle.gadget_match.specs.Extracted.{listed_pairs}
use Rattle.gadget_match.proofs.gathering.add_pairs.Given as goal

abbrev pub invariant-loop-edge : goal.invariant-loop-edge
invariant-loop-edge l = record {
  size : length l.counts ≡ length l.instance.edges;
  value_limit : (k : ℕ) → k < length l.instance.edges → slice_index l.counts k ≤ l.edge-index;
  each : (k : ℕ) → k < length l.instance.edges → slice_index l.counts k ≡ listed_pairs l.instance (take l.edge-index l.edges) k;
}
