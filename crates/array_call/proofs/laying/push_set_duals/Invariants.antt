use Rattle.graph_theory.proofs.Common.{◌≡◌, ◌++◌, map, take}
use Rattle.array_call.proofs.laying.push_set_duals.Given as goal

abbrev pub invariant-loop-z : goal.invariant-loop-z
invariant-loop-z l = l.numbers.items ≡ l.initial.numbers.items ++ map (λ z. z.dual) (take l.z-index l.sets)
