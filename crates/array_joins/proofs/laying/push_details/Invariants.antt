use Rattle.mb_problem.proofs.Common.{◌≡◌, ◌++◌, map, take}
use Rattle.array_joins.specs.Numbers.{detail_number}
use Rattle.array_joins.proofs.laying.push_details.Given as goal

abbrev pub invariant-loop-outcome : goal.invariant-loop-outcome
invariant-loop-outcome l = l.numbers.items ≡ l.initial.numbers.items ++ map detail_number (take l.outcome-index l.outcomes)
