use Rattle.graph_theory.proofs.Common.{◌≡◌, take}
use Rattle.brute_force.proofs.tours.copied_edges.Given as goal

abbrev pub invariant-loop-edge : goal.invariant-loop-edge
invariant-loop-edge l = l.edges.items ≡ take l.edge-index l.instance.edges
