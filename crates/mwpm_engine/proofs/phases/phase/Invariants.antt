use Rattle.alt_forest.proofs.Common.{◌≡◌, ◌≤◌, ◌+◌, length, state_of, exposed_count, measure}
use Rattle.mwpm_engine.specs.Solutions.{size_of_graph}
use Rattle.mwpm_engine.specs.Passes.{IsSamePass, IsGrowing, account, phase_steps}
use Rattle.mwpm_engine.proofs.phases.phase.Given as goal

abbrev pub invariant-loop-event : goal.invariant-loop-event
invariant-loop-event g l = record {
  growing : IsGrowing l.search;
  same : IsSamePass l.fn.search l.search;
  exposed : exposed_count (state_of l.search) ≡ exposed_count (state_of l.fn.search);
  steps : account l.search l.steps + 3 ≤ l.fn.steps + phase_steps (size_of_graph l.graph) (length l.fn.search.arena.blossoms);
}

abbrev pub decreases-loop-event : goal.decreases-loop-event
decreases-loop-event g l = measure (state_of l.search)
