use Rattle.mb_problem.proofs.Common.{◌≡◌, None}
use Rattle.array_joins.specs.First.{first_of}
use Rattle.array_joins.specs.Sets.{wrong_start}
use Rattle.array_joins.proofs.sets.starts_fault.Given as goal

abbrev pub invariant-loop-k : goal.invariant-loop-k
invariant-loop-k l = first_of (wrong_start l.starts l.count) l.k ≡ None
