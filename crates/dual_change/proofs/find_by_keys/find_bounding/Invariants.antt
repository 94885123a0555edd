use Rattle.graph_theory.proofs.Common.{◌≡◌, ◌+◌, ◌≤◌}
use Rattle.search_keys.specs.Bounds.{IsBounding}
use Rattle.search_keys.specs.Looks.{stale_ends}
use Rattle.dual_change.specs.Turns.{turns_left}
use Rattle.dual_change.proofs.find_by_keys.find_bounding.Given as goal

abbrev pub invariant-loop-item : goal.invariant-loop-item
invariant-loop-item g l = record {
  vertex_keys : IsBounding l.search l.bounds;
  count : l.steps + stale_ends l.search l.bounds ≡ l.fn.steps + stale_ends l.search l.fn.bounds;
  inspections : l.fn.steps ≤ l.steps;
}

abbrev pub decreases-loop-item : goal.decreases-loop-item
decreases-loop-item g l = turns_left l.search l.bounds
