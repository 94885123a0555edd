use Rattle.alt_forest.proofs.Common.{◌≡◌, ◌+◌, drop, ends_around}
use Rattle.augment.proofs.tree_sizes.ends_at.Given as goal

abbrev pub invariant-loop-v : goal.invariant-loop-v
invariant-loop-v l = l.ends + ends_around l.search.graph (drop l.v-index l.fn.vertices) ≡ ends_around l.search.graph l.fn.vertices
