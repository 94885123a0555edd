use Rattle.alt_forest.proofs.Common.{◌+◌, ◌≤◌, take, flat_map, ends_around}
use Rattle.augment.specs.Sides.{outer_part}
use Rattle.augment.proofs.tree_sizes.is_outer_within.Given as goal

abbrev pub invariant-loop-place : goal.invariant-loop-place
invariant-loop-place l = l.left + ends_around l.search.graph (flat_map (outer_part l.search) (take l.place l.search.tree_nodes.nodes)) ≤ l.fn.most
