use Rattle.alt_forest.proofs.Common.{ℕ, ◌<◌, ◌≤◌, IsNumber, IsOutermost, state_of}
use Rattle.dual_change.specs.Changes.{applied}
use Rattle.search_tests.proofs.tests.range.duals_fit.Given as goal

abbrev pub invariant-loop-number : goal.invariant-loop-number
invariant-loop-number l = (a : ℕ) → 1 ≤ a → a < l.number → IsOutermost (state_of l.search) a → IsNumber ((applied (state_of l.search) l.d).dual a)
