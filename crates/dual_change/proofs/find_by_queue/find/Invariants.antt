use Rattle.alt_forest.proofs.Common.{◌≡◌, ◌+◌, ◌≤◌, IsSound, IsQueued, entry_count}
use Rattle.dual_change.specs.Candidates.{entries_left}
use Rattle.dual_change.proofs.Dropped.{Drops}
use Rattle.dual_change.proofs.find_by_queue.find.Given as goal

abbrev pub invariant-loop-item : goal.invariant-loop-item
invariant-loop-item g l = record {
  frame : l.search ≡ record l.fn.search { queue = l.search.queue };
  sound : IsSound l.search;
  event_times : IsQueued l.search;
  drops : Drops l.fn.search.queue l.search.queue;
  count : entry_count l.search.queue + l.steps ≤ entry_count l.fn.search.queue + l.fn.steps;
  look : l.fn.steps ≤ l.steps;
}

abbrev pub decreases-loop-item : goal.decreases-loop-item
decreases-loop-item g l = entries_left l.search.queue
