use Rattle.mb_problem.proofs.Common.{◌≡◌, ℕ, length, slice_index}
use Rattle.join_check.specs.Checks.{held_at}
use Rattle.join_check.proofs.held.count_held.Given as goal

abbrev pub invariant-loop-vertex : goal.invariant-loop-vertex
invariant-loop-vertex l = record {
  size : length l.held ≡ length l.fn.held;
  each : (x : ℕ) → slice_index l.held x ≡ held_at l.odd l.nodes x l.vertex;
}
