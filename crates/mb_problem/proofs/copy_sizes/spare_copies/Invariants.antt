use Rattle.graph_theory.proofs.Common.{◌≡◌, ◌*◌, ◌≤◌, sum_to}
use Rattle.mb_problem.specs.Size.{spare_copies}
use Rattle.mb_problem.proofs.copy_sizes.spare_copies.Given as goal

abbrev pub invariant-loop-k : goal.invariant-loop-k
invariant-loop-k l = record {
  sum : l.spare ≡ sum_to (spare_copies l.instance) l.k;
  value_limit : l.spare ≤ 4096 * l.k;
}
