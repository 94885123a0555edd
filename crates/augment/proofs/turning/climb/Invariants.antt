use Rattle.alt_forest.proofs.Common.{◌≡◌, length, HasShape, state_of, edge_in, IsOutermost, path_of}
use Rattle.augment.specs.Turns.{CanClimb}
use Rattle.augment.proofs.Climbing.{IsClimbing}
use Rattle.augment.proofs.turning.climb.Given as goal

abbrev pub invariant-path : goal.invariant-path
invariant-path l = record {
  frame : l.search ≡ record l.fn.search { mates = l.search.mates };
  shape : HasShape l.search;
  is : IsOutermost (state_of l.search) l.node;
  climbing : (h : CanClimb (state_of l.fn.search) l.fn.e l.fn.start) → IsClimbing (state_of l.fn.search) l.fn.e l.fn.start h (edge_in l.search.mates.items) l.edge l.node;
}

abbrev pub decreases-path : goal.decreases-path
decreases-path l = length (path_of (state_of l.fn.search) l.node)
