use Rattle.graph_theory.proofs.Common.{◌≡◌, ◌*◌, ◌^◌, pos, neg_ℤ, ◌*ℤ◌, ◌≤ℤ◌, slice_index, int_sum_to, edge_at}
use Rattle.mb_problem.specs.Network.{graph_of}
use Rattle.mb_problem.proofs.measure.weight_of_counts.Given as goal

abbrev pub invariant-loop-k : goal.invariant-loop-k
invariant-loop-k l = record {
  sum : l.total ≡ int_sum_to (λ j. pos (slice_index l.counts j) *ℤ (edge_at (graph_of l.instance) j).w) l.k;
  low : neg_ℤ (pos (2 ^ 95 * l.k)) ≤ℤ l.total;
  high : l.total ≤ℤ pos (2 ^ 95 * l.k);
}
