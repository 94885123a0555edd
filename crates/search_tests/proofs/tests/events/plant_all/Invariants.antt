use Rattle.alt_forest.proofs.Common.{◌≡◌, IsSound, IsQueued, HasTreeNodes}
use Rattle.search_tests.proofs.tests.events.plant_all.Given as goal

abbrev pub invariant-loop : goal.invariant-loop
invariant-loop g l = record {
  sound : IsSound l.search;
  event_times : IsQueued l.search;
  listed : HasTreeNodes l.search;
  same : l.graph ≡ l.search.graph;
}
