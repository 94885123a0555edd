use Rattle.graph_theory.proofs.Common.{◌≡◌, take}
use Rattle.alt_forest.proofs.starts.copied.Given as goal

abbrev pub invariant-loop-edge : goal.invariant-loop-edge
invariant-loop-edge l = l.copy ≡ record { vertices = l.graph.vertices; edges = take l.edge-index l.graph.edges }
