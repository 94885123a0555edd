use Rattle.graph_theory.proofs.Common.{◌≡◌, ◌++◌, map, take}
use Rattle.array_call.proofs.laying.push_starts.Given as goal

abbrev pub invariant-loop-r : goal.invariant-loop-r
invariant-loop-r l = l.numbers.items ≡ l.initial.numbers.items ++ map (λ r. r.vertex) (take l.r-index l.paths)
