use Rattle.graph_theory.proofs.Common.{◌≡◌}
use Rattle.array_joins.specs.PairedUp.{IsPairedUp}
use Rattle.array_joins.proofs.pair_graph.add_others.Given as goal

abbrev pub invariant-loop-pair : goal.invariant-loop-pair
invariant-loop-pair l = record {
  paired : IsPairedUp l.twos l.graph;
  vertices : l.graph.vertices ≡ l.initial.graph.vertices;
}
