use Rattle.graph_theory.proofs.Common.{◌≡◌, ℕ, ◌<◌, length, slice_index}
use Rattle.gadget_cap.specs.Capped.{capped_room}
use Rattle.gadget_cap.specs.Places.{gate_size}
use Rattle.gadget_cap.proofs.entries.all_gate_sizes.Given as goal

abbrev pub invariant-loop-edge : goal.invariant-loop-edge
invariant-loop-edge l = record {
  size : length l.sizes.items ≡ l.edge-index;
  each : (k : ℕ) → k < l.edge-index → slice_index l.sizes.items k ≡ gate_size l.instance (capped_room l.unit l.instance) k;
}
