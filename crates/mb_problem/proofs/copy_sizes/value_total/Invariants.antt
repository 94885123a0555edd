use Rattle.graph_theory.proofs.Common.{◌≡◌, ◌*◌, ◌≤◌, slice_index, sum_to}
use Rattle.mb_problem.proofs.copy_sizes.value_total.Given as goal

abbrev pub invariant-loop-value : goal.invariant-loop-value
invariant-loop-value l = record {
  sum : l.total ≡ sum_to (λ k. slice_index l.values k) l.value-index;
  value_limit : l.total ≤ 4096 * l.value-index;
}
