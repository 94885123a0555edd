use Rattle.graph_theory.proofs.Common.{◌≡◌, ◌≤◌, ◌*◌, drop}
use Rattle.brute_force.specs.Digits.{digit_lists}
use Rattle.brute_force.proofs.digits.lists.Given as goal

abbrev pub invariant-loop-most : goal.invariant-loop-most
invariant-loop-most l = record {
  size_limit : l.total ≤ 1048576;
  product : digit_lists (drop l.most-index l.mosts) * l.total ≡ digit_lists l.mosts;
}
