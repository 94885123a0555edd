use Rattle.graph_theory.proofs.Common.{◌≡◌, ◌++◌, take}
use Rattle.gadget_base.specs.Gadgets.{moved}
use Rattle.gadget_interval.proofs.halves.add_moved.Given as goal

abbrev pub invariant-loop-edge : goal.invariant-loop-edge
invariant-loop-edge l = l.graph ≡ record l.initial.graph { edges = l.initial.graph.edges ++ moved l.by (take l.edge-index l.half.edges) }
