use Rattle.mb_problem.proofs.Common.{◌≡◌, ◌≤◌, length, map, take, not, filter, is_loop, HasNoLoop, unweighted, vertices, plain}
use Rattle.gadget_base.proofs.plain.unweighted.Given as goal

abbrev pub invariant-loop-edge : goal.invariant-loop-edge
invariant-loop-edge l = record {
  graph : l.graph ≡ unweighted (record { vertices = vertices l.instance; edges = filter (λ e. not (is_loop e)) (map plain (take l.edge-index l.instance.edges)) });
  size_limit : length l.graph.edges ≤ l.edge-index;
  loopless : HasNoLoop l.graph;
}
