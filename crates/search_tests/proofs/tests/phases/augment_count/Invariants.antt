use Rattle.graph_theory.proofs.Common.{◌≡◌}
use Rattle.mwpm_engine.specs.Passes.{IsReady}
use Rattle.search_tests.proofs.tests.phases.augment_count.Given as goal

abbrev pub invariant-loop-count : goal.invariant-loop-count
invariant-loop-count g l = record {
  well_formed : IsReady l.search;
  same : l.graph ≡ l.search.graph;
}
