use Rattle.mb_problem.proofs.Common.{◌≡◌, ◌*◌, ◌^◌, pos, neg_ℤ, ◌*ℤ◌, ◌≤ℤ◌, length, replicate, slice_index, int_sum_to, edge_at, graph_of}
use Rattle.certificates.proofs.value.total_weight.Given as goal

abbrev pub invariant-loop-edge : goal.invariant-loop-edge
invariant-loop-edge l = record {
  sum : l.total ≡ int_sum_to (λ j. pos (slice_index (replicate (length l.instance.edges) 1) j) *ℤ (edge_at (graph_of l.instance) j).w) l.edge-index;
  low : neg_ℤ (pos (2 ^ 63 * l.edge-index)) ≤ℤ l.total;
  high : l.total ≤ℤ pos (2 ^ 63 * l.edge-index);
}
