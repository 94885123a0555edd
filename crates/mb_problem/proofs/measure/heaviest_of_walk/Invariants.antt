use Rattle.graph_theory.proofs.Common.{◌≡◌, slice_index, Some, edge_of}
use Rattle.mb_problem.specs.Network.{graph_of}
use Rattle.mb_problem.specs.Heaviest.{greatest_to}
use Rattle.mb_problem.proofs.measure.heaviest_of_walk.Given as goal

abbrev pub invariant-loop-edge : goal.invariant-loop-edge
invariant-loop-edge l = l.greatest ≡ greatest_to (λ k. Some (edge_of (graph_of l.instance) (slice_index l.edges k)).w) l.edge-index
