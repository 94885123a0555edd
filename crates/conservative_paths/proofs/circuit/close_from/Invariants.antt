use Rattle.graph_theory.proofs.Common.{pos, ◌+ℤ◌, ◌<ℤ◌, length, slice_index, sum_to, weight, walk_weight}
use Rattle.conservative_paths.specs.Trails.{IsLeft, IsOpen}
use Rattle.conservative_paths.proofs.circuit.close_from.Given as goal

abbrev pub invariant-loop-step : goal.invariant-loop-step
invariant-loop-step l = record {
  left : IsLeft l.graph l.left;
  path : IsOpen l.graph l.fn.left.counts.items l.left.counts.items l.fn.base l.fn.base l.trail;
  less : (weight l.graph l.left.counts.items +ℤ walk_weight l.graph l.trail.edges.items) <ℤ pos 0;
}

abbrev pub decreases-loop-step : goal.decreases-loop-step
decreases-loop-step l = sum_to (slice_index l.left.counts.items) (length l.graph.edges)
