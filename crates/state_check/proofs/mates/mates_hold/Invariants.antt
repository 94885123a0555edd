use Rattle.alt_forest.proofs.Common.{ℕ, ◌<◌, ◌≤◌, IsOutermost, state_of}
use Rattle.state_check.specs.Checks.{MateHolds}
use Rattle.state_check.proofs.mates.mates_hold.Given as goal

abbrev pub invariant-loop-number : goal.invariant-loop-number
invariant-loop-number l = (a : ℕ) → 1 ≤ a → a < l.number → IsOutermost (state_of l.search) a → MateHolds (state_of l.search) a
