use Rattle.graph_theory.proofs.Common.{◌≡◌, ℕ, ◌+◌, ◌<◌, length}
use Rattle.dual_check.specs.Trees.{number_at}
use Rattle.dual_check.proofs.stretches.ends_of.Given as goal

abbrev pub invariant-loop-set : goal.invariant-loop-set
invariant-loop-set l = record { size : length l.ends.items ≡ l.set; each : (j : ℕ) → j < l.set → number_at l.ends.items j ≡ number_at l.begins j + number_at l.sizes j }
