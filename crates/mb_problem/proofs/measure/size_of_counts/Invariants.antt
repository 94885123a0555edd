use Rattle.graph_theory.proofs.Common.{◌≡◌, ◌≤◌, slice_index, cond, nat_lt, sum_to}
use Rattle.mb_problem.proofs.measure.size_of_counts.Given as goal

abbrev pub invariant-loop-k : goal.invariant-loop-k
invariant-loop-k l = record {
  sum : l.used ≡ sum_to (λ j. cond (nat_lt 0 (slice_index l.counts j)) 1 0) l.k;
  value_limit : l.used ≤ l.k;
}
