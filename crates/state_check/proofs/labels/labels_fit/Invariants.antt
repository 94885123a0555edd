use Rattle.alt_forest.proofs.Common.{ℕ, ◌<◌, ◌≤◌, IsOutermost, state_of}
use Rattle.state_check.specs.Checks.{FitsHere}
use Rattle.state_check.proofs.labels.labels_fit.Given as goal

abbrev pub invariant-loop-number : goal.invariant-loop-number
invariant-loop-number l = (a : ℕ) → 1 ≤ a → a < l.number → IsOutermost (state_of l.search) a → FitsHere (state_of l.search) a
