use Rattle.alt_forest.proofs.Common.{◌≡◌, ◌<◌, length, vec_len, AllByRecursion, Link, edge_in}
use Rattle.tree_steps.specs.Expanded.{mated}
use Rattle.tree_steps.proofs.pairs.mate_pairs.Given as goal

abbrev pub invariant-loop-left : goal.invariant-loop-left
invariant-loop-left l = record {
  mates : mated (edge_in l.mates.items) l.left ≡ mated (edge_in l.fn.mates.items) l.links;
  places : AllByRecursion (λ (k : Link). k.node < vec_len l.mates) l.left;
  len : vec_len l.mates ≡ vec_len l.fn.mates;
}

abbrev pub decreases-loop-left : goal.decreases-loop-left
decreases-loop-left l = length l.left
