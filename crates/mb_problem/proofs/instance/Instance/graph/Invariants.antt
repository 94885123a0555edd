use Rattle.graph_theory.proofs.Common.{◌≡◌, map, take}
use Rattle.mb_problem.specs.Network.{vertices, plain}
use Rattle.mb_problem.proofs.instance.Instance.graph.Given as goal

abbrev pub invariant-loop-edge : goal.invariant-loop-edge
invariant-loop-edge l = l.graph ≡ record { vertices = vertices l.self; edges = map plain (take l.edge-index l.self.edges) }
