use Rattle.mb_problem.proofs.Common.{length, slice_index, sum_to}
use Rattle.conservative_paths.specs.Trails.{IsLeft, IsOpen}
use Rattle.conservative_paths.proofs.path.walk_on.Given as goal

abbrev pub invariant-loop-step : goal.invariant-loop-step
invariant-loop-step l = record {
  left : IsLeft l.graph l.left;
  path : IsOpen l.graph l.fn.left.counts.items l.left.counts.items l.fn.s l.fn.t l.trail;
}

abbrev pub decreases-loop-step : goal.decreases-loop-step
decreases-loop-step l = sum_to (slice_index l.left.counts.items) (length l.graph.edges)
