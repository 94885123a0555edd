use Rattle.mb_problem.proofs.Common.{◌≡◌, ◌≢◌, ℕ, ◌+◌, ◌%◌, ◌<◌, ◌≤◌, pos, slice_index}
use Rattle.join_check.specs.Checks.{at}
use Rattle.join_check.proofs.held.are_odd.Given as goal

abbrev pub invariant-loop-node : goal.invariant-loop-node
invariant-loop-node l = (b : ℕ) → 1 ≤ b → b < l.node → at l.lengths b ≢ pos 0 → (slice_index l.held b + slice_index l.held (slice_index l.befores b)) % 2 ≡ 1
