use Rattle.mb_problem.proofs.Common.{◌≡◌, take}
use Rattle.array_joins.specs.Marked.{unmarked}
use Rattle.array_joins.proofs.marking.unmark.Given as goal

abbrev pub invariant-loop-terminal : goal.invariant-loop-terminal
invariant-loop-terminal l = l.instance ≡ unmarked l.initial.instance (take l.terminal-index l.terminals)
