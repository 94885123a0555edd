use Rattle.graph_theory.proofs.Common.{◌≡◌, ◌*◌, length}
use Rattle.array_joins.specs.PairedUp.{IsPairedUp}
use Rattle.array_joins.proofs.pair_graph.graph_of_twos.Given as goal

abbrev pub invariant-loop-place : goal.invariant-loop-place
invariant-loop-place l = record {
  vertices : l.graph.vertices ≡ 2 * length l.distances;
  paired : IsPairedUp l.place l.graph;
  each : length l.graph.edges ≡ l.place;
}
