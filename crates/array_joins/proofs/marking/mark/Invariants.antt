use Rattle.mb_problem.proofs.Common.{◌≡◌, None, take, vertices}
use Rattle.array_joins.specs.First.{first_of}
use Rattle.array_joins.specs.Terminals.{terminal_fault, network_with}
use Rattle.array_joins.proofs.marking.mark.Given as goal

abbrev pub invariant-loop-k : goal.invariant-loop-k
invariant-loop-k l = record {
  marked : l.instance ≡ network_with l.initial.instance (take l.k l.terminals);
  none : first_of (terminal_fault (vertices l.initial.instance) l.terminals) l.k ≡ None;
}
