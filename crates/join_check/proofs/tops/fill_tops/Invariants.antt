use Rattle.mb_problem.proofs.Common.{◌≡◌, ℕ, ◌<◌, length}
use Rattle.join_check.specs.Checks.{at, topped}
use Rattle.join_check.proofs.tops.fill_tops.Given as goal

abbrev pub invariant-loop-node : goal.invariant-loop-node
invariant-loop-node l = record {
  one_each : length l.tops ≡ length l.lengths;
  each : (x : ℕ) → x < l.node → at l.tops x ≡ topped l.lengths l.befores x;
  now : l.top ≡ topped l.lengths l.befores l.node;
}
