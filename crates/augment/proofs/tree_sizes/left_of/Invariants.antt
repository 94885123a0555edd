use Rattle.alt_forest.proofs.Common.{◌≡◌, ◌+◌, ◌≤◌, true, AllByRecursion, is_vertex, ends_around}
use Rattle.augment.proofs.tree_sizes.left_of.Given as goal

abbrev pub invariant-loop-v : goal.invariant-loop-v
invariant-loop-v l = record {
  left : l.left + ends_around l.search.graph l.fn.vertices ≤ l.fn.most + ends_around l.search.graph l.v-iterator;
  vertices : AllByRecursion (λ v. is_vertex l.search.graph.vertices v ≡ true) l.v-iterator;
}
