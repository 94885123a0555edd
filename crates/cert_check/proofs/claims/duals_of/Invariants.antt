use Rattle.graph_theory.proofs.Common.{◌≡◌, take, map}
use Rattle.cert_check.proofs.claims.duals_of.Given as goal

abbrev pub invariant-loop-y : goal.invariant-loop-y
invariant-loop-y l = l.duals.items ≡ map (λ y. y.dual) (take l.y-index l.lines)
