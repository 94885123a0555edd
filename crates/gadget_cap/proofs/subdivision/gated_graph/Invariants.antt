use Rattle.gadget_base.proofs.Common.{blocks, before_gates, gated}
use Rattle.std.proofs.Common.{◌≡◌, length}
use Rattle.gadget_cap.specs.Capped.{capped_room}
use Rattle.gadget_cap.proofs.subdivision.gated_graph.Given as goal

abbrev pub invariant-loop-edge : goal.invariant-loop-edge
invariant-loop-edge l = record {
  before : l.before ≡ before_gates l.instance (capped_room l.unit l.instance) l.edge-index;
  vertices : l.graph.vertices ≡ before_gates l.instance (capped_room l.unit l.instance) (length l.instance.edges);
  edges : l.graph.edges ≡ blocks (gated l.instance (capped_room l.unit l.instance)) l.edge-index;
}
