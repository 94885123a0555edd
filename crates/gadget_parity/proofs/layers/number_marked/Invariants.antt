use Rattle.mb_problem.proofs.Common.{◌≡◌, ◌+◌, ◌≤◌, standing}
use Rattle.gadget_parity.specs.Numbers.{is_marked, AreNumbers}
use Rattle.gadget_parity.proofs.layers.number_marked.Given as goal

abbrev pub invariant-loop-marked : goal.invariant-loop-marked
invariant-loop-marked l = record {
  numbers : AreNumbers (is_marked l.marks) l.before l.marked-index l.numbers.items;
  last : l.last ≡ l.before + standing (is_marked l.marks) l.marked-index;
  size_limit : l.last ≤ l.before + l.marked-index;
}
