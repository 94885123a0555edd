use Rattle.alt_forest.proofs.Common.{◌≤◌, ◌+◌, IsQueued, entry_count}
use Rattle.search_start.proofs.PlantedNodes.{IsPlanting}
use Rattle.search_start.proofs.planting.plant_all.Given as goal

abbrev pub invariant-loop-place : goal.invariant-loop-place
invariant-loop-place g l = record {
  planting : IsPlanting l.fn.search l.search l.place l.some l.fn.steps l.steps;
  event_times : IsQueued l.search;
  count : entry_count l.search.queue + l.fn.steps ≤ entry_count l.fn.search.queue + l.steps;
}
