use Rattle.mb_problem.proofs.Common.{◌≡◌, ◌*◌, ◌^◌, pos, neg_ℤ, ◌≤ℤ◌, cond, int_sum_to, edge_at, graph_of}
use Rattle.join_check.specs.Forests.{is_turned}
use Rattle.join_check.proofs.paid.negative_sum.Given as goal

abbrev pub invariant-loop-edge : goal.invariant-loop-edge
invariant-loop-edge l = record {
  sum : l.sum ≡ int_sum_to (λ k. cond (is_turned l.instance k) (edge_at (graph_of l.instance) k).w (pos 0)) l.edge-index;
  low : neg_ℤ (pos (2 ^ 63 * l.edge-index)) ≤ℤ l.sum;
  high : l.sum ≤ℤ pos (2 ^ 63 * l.edge-index);
}
