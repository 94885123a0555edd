use Rattle.graph_theory.proofs.Common.{◌≡◌, ◌≤◌, length, map, take, not, filter, is_loop, HasNoLoop}
use Rattle.mb_problem.specs.Network.{vertices, plain}
use Rattle.mb_problem.proofs.instance.Instance.plain.Given as goal

abbrev pub invariant-loop-edge : goal.invariant-loop-edge
invariant-loop-edge l = record {
  graph : l.graph ≡ record { vertices = vertices l.self; edges = filter (λ e. not (is_loop e)) (map plain (take l.edge-index l.self.edges)) };
  size_limit : length l.graph.edges ≤ l.edge-index;
  loopless : HasNoLoop l.graph;
}
