use Rattle.graph_theory.proofs.Common.{◌≡◌, ◌↔◌, drop, IsWalk, walk_end}
use Rattle.mb_problem.specs.Network.{graph_of}
use Rattle.mb_problem.proofs.walks.walk_end.Given as goal

abbrev pub invariant-loop-e : goal.invariant-loop-e
invariant-loop-e l = record {
  walk : IsWalk (graph_of l.instance) l.initial.at l.edges ↔ IsWalk (graph_of l.instance) l.at (drop l.e-index l.edges);
  end : walk_end (graph_of l.instance) l.initial.at l.edges ≡ walk_end (graph_of l.instance) l.at (drop l.e-index l.edges);
}
