use Rattle.mb_problem.proofs.Common.{◌≡◌, ◌*◌, drop, pos, neg_ℤ, ◌+ℤ◌, ◌≤ℤ◌, walk_weight}
use Rattle.mb_problem.specs.Network.{graph_of}
use Rattle.join_check.proofs.paid.weight_of.Given as goal

abbrev pub invariant-loop-edge : goal.invariant-loop-edge
invariant-loop-edge l = record {
  sum : walk_weight (graph_of l.instance) l.edges ≡ l.total +ℤ walk_weight (graph_of l.instance) (drop l.edge-index l.edges);
  low : neg_ℤ (pos (1_000_000_000_000 * l.edge-index)) ≤ℤ l.total;
  high : l.total ≤ℤ pos (1_000_000_000_000 * l.edge-index);
}
