use Rattle.mb_problem.proofs.Common.{◌≡◌, ℕ, ◌<◌, ◌-ℤ◌, ◌+ℤ◌, length, slice_index}
use Rattle.join_check.specs.Checks.{at, IsLength}
use Rattle.join_check.proofs.places.fill_depths.Given as goal

abbrev pub invariant-loop-vertex : goal.invariant-loop-vertex
invariant-loop-vertex l = record {
  one_each : length l.depths ≡ length l.nodes;
  each : (j : ℕ) → j < l.vertex → at l.depths j ≡ at l.tops (slice_index l.nodes j) -ℤ at l.lengths (slice_index l.nodes j) +ℤ at l.heights j;
  value_limit : (j : ℕ) → j < l.vertex → IsLength (at l.depths j);
}
