use Rattle.alt_forest.proofs.Common.{◌≤◌, ◌+◌, ◌*◌, false, state_of, exposed_count}
use Rattle.mwpm_engine.specs.Solutions.{size_of_graph}
use Rattle.mwpm_engine.specs.Passes.{IsSamePass, IsRunning, pass_account, pass_steps, remaining, stage_of}
use Rattle.mwpm_engine.proofs.pass.pass.Given as goal

abbrev pub invariant-loop-event : goal.invariant-loop-event
invariant-loop-event g l = record {
  running : IsRunning l.search l.bounds;
  same : IsSamePass l.fn.search l.search;
  steps : pass_account (stage_of l.search l.bounds l.steps) ≤ 4 * l.fn.steps + pass_steps (size_of_graph l.fn.search.graph) (exposed_count (state_of l.fn.search)) false;
}

abbrev pub decreases-loop-event : goal.decreases-loop-event
decreases-loop-event g l = remaining l.fn.search.graph.vertices (state_of l.search)
