use Rattle.graph_theory.proofs.Common.{◌≡◌, ◌+◌, length}
use Rattle.dual_check.specs.Forests.{AreItemLists}
use Rattle.dual_check.proofs.ListFaults.{MarksReferred}
use Rattle.dual_check.proofs.sets.list_fault.Given as goal

abbrev pub invariant-loop-k : goal.invariant-loop-k
invariant-loop-k l = record { size : length l.marks ≡ length l.sets + 1; lists : AreItemLists l.sets l.k; marked : MarksReferred l.sets l.marks l.k }
