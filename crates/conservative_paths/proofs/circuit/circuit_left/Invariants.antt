use Rattle.mb_problem.proofs.Common.{◌≡◌, ℕ, ◌+◌, ◌-◌, ◌<◌, ◌≤◌, length, slice_index, listed_counts}
use Rattle.conservative_paths.specs.Trails.{IsLeft, IsNegativeEven}
use Rattle.conservative_paths.proofs.circuit.circuit_left.Given as goal

abbrev pub invariant-loop-edge : goal.invariant-loop-edge
invariant-loop-edge l = record {
  left : IsLeft l.graph l.left;
  room : length l.trail.place.items ≡ l.graph.vertices + 1;
  even : IsNegativeEven l.graph l.left.counts.items;
  fewer : (k : ℕ) → k < length l.instance.edges → slice_index l.left.counts.items k ≤ slice_index (listed_counts l.join.edges (length l.instance.edges)) k;
  none : (j : ℕ) → j < l.edge-index → slice_index l.left.counts.items (slice_index l.join.edges j - 1) ≡ 0;
}
