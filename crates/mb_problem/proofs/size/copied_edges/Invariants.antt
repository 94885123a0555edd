use Rattle.graph_theory.proofs.Common.{◌≡◌, ◌*◌, ◌≤◌, sum_to}
use Rattle.mb_problem.specs.Size.{copy_pairs}
use Rattle.mb_problem.proofs.size.copied_edges.Given as goal

abbrev pub invariant-loop-edge : goal.invariant-loop-edge
invariant-loop-edge l = record {
  sum : l.total ≡ sum_to (copy_pairs l.instance) l.edge-index;
  value_limit : l.total ≤ 4096 * 4096 * l.edge-index;
}
