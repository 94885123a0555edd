use Rattle.graph_theory.proofs.Common.{◌≡◌, ◌++◌, map, take}
use Rattle.array_call.proofs.laying.push_duals.Given as goal

abbrev pub invariant-loop-y : goal.invariant-loop-y
invariant-loop-y l = l.numbers.items ≡ l.initial.numbers.items ++ map (λ y. y.dual) (take l.y-index l.duals)
