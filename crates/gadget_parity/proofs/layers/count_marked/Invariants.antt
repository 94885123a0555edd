use Rattle.mb_problem.proofs.Common.{◌≡◌, ◌≤◌, standing}
use Rattle.gadget_parity.specs.Numbers.{is_marked}
use Rattle.gadget_parity.proofs.layers.count_marked.Given as goal

abbrev pub invariant-loop-marked : goal.invariant-loop-marked
invariant-loop-marked l = record {
  count : l.count ≡ standing (is_marked l.marks) l.marked-index;
  size_limit : l.count ≤ l.marked-index;
}
