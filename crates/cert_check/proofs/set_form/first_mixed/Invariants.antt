use Rattle.graph_theory.proofs.Common.{ℕ, ◌<◌}
use Rattle.cert_check.specs.Faults.{IsSorted}
use Rattle.cert_check.proofs.set_form.first_mixed.Given as goal

abbrev pub invariant-loop-k : goal.invariant-loop-k
invariant-loop-k l = (j : ℕ) → j < l.k → IsSorted l.lines j
