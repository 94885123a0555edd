use Rattle.graph_theory.proofs.Common.{◌≡◌, take}
use Rattle.gadget_interval.specs.Halves.{listed_after}
use Rattle.gadget_interval.proofs.lighter.edges_after.Given as goal

abbrev pub invariant-loop-edge : goal.invariant-loop-edge
invariant-loop-edge l = l.part.items ≡ listed_after l.before l.count (take l.edge-index l.edges)
