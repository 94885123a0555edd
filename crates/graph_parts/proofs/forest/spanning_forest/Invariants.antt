use Rattle.graph_theory.proofs.Common.{◌≡◌, ◌+◌, [], length}
use Rattle.graph_parts.specs.Heads.{SeenBelow}
use Rattle.graph_parts.specs.Forests.{IsForest}
use Rattle.graph_parts.proofs.forest.spanning_forest.Given as goal

abbrev pub invariant-loop-number : goal.invariant-loop-number
invariant-loop-number l = record {
  size : length l.seen.items ≡ l.graph.vertices + 1;
  seen : SeenBelow l.graph [] (l.number + 1) l.seen.items;
  forest : IsForest l.graph [] l.seen.items l.links.items;
}
