use Rattle.mb_problem.proofs.Common.{◌≡◌, ℕ, ◌<◌, ◌%◌, slice_index}
use Rattle.join_check.proofs.join.have_parities.Given as goal

abbrev pub invariant-loop-vertex : goal.invariant-loop-vertex
invariant-loop-vertex l = (j : ℕ) → j < l.vertex → slice_index l.degrees j % 2 ≡ slice_index l.odds j
