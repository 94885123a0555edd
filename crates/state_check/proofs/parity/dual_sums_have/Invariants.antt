use Rattle.alt_forest.proofs.Common.{ℕ, ◌≤◌, state_of}
use Rattle.state_check.specs.Checks.{DualSumHas}
use Rattle.state_check.proofs.parity.dual_sums_have.Given as goal

abbrev pub invariant-loop-place : goal.invariant-loop-place
invariant-loop-place l = (v : ℕ) → 1 ≤ v → v ≤ l.place → DualSumHas (state_of l.search) l.odd v
