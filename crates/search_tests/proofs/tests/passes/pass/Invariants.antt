use Rattle.alt_forest.proofs.Common.{◌≡◌, IsSound, state_of, IsPlanted, IsQueued, HasTreeNodes}
use Rattle.search_tests.proofs.tests.passes.pass.Given as goal

abbrev pub invariant-loop : goal.invariant-loop
invariant-loop g l = record {
  sound : IsSound l.search;
  event_times : IsQueued l.search;
  listed : HasTreeNodes l.search;
  same : l.graph ≡ l.search.graph;
  all_rooted : IsPlanted (state_of l.search);
}
