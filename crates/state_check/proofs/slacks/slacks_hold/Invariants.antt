use Rattle.alt_forest.proofs.Common.{ℕ, ◌≤◌, pos, ◌≤ℤ◌, slack_of, state_of}
use Rattle.state_check.proofs.slacks.slacks_hold.Given as goal

abbrev pub invariant-loop-place : goal.invariant-loop-place
invariant-loop-place l = (e : ℕ) → 1 ≤ e → e ≤ l.place → pos 0 ≤ℤ slack_of (state_of l.search) e
