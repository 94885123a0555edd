use Rattle.alt_forest.proofs.Common.{◌≡◌, ◌<◌, length, AllByRecursion, Link, edge_in}
use Rattle.augment.specs.Opening.{first_matched}
use Rattle.augment.proofs.opening.matched_node.Given as goal

abbrev pub invariant-loop-link : goal.invariant-loop-link
invariant-loop-link l = record {
  first : first_matched (edge_in l.mates) l.link-iterator ≡ first_matched (edge_in l.mates) l.fn.links;
  each : AllByRecursion (λ (k : Link). k.node < length l.mates) l.link-iterator;
}
