use Rattle.mb_problem.proofs.Common.{◌≡◌, ◌++◌, map, pos, take}
use Rattle.array_joins.proofs.laying.push_numbers.Given as goal

abbrev pub invariant-loop-edge : goal.invariant-loop-edge
invariant-loop-edge l = l.numbers.items ≡ l.initial.numbers.items ++ map pos (take l.edge-index l.edges)
