use Rattle.alt_forest.proofs.Common.{◌≡◌, take, flat_map, HasShape}
use Rattle.augment.specs.Sides.{outer_part}
use Rattle.augment.proofs.tree_sizes.scan_outer.Given as goal

abbrev pub invariant-loop-place : goal.invariant-loop-place
invariant-loop-place l = record {
  frame : l.search ≡ record l.fn.search { scanned = l.search.scanned };
  shape : HasShape l.search;
  scanned : l.search.scanned.items ≡ flat_map (outer_part l.fn.search) (take l.place l.fn.search.tree_nodes.nodes);
}
