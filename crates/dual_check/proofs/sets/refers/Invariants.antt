use Rattle.graph_theory.proofs.Common.{◌≡◌, ℕ, ◌<◌, [], given_at}
use Rattle.dual_check.proofs.sets.refers.Given as goal

abbrev pub invariant-loop-set : goal.invariant-loop-set
invariant-loop-set l = (j : ℕ) → j < l.set-index → (given_at l.sets j).references ≡ []
