use Rattle.graph_theory.proofs.Common.{◌≡◌, ◌*◌, ◌^◌, drop, pos, neg_ℤ, ◌+ℤ◌, ◌≤ℤ◌, walk_weight}
use Rattle.conservative_paths.proofs.advance.weight_of.Given as goal

abbrev pub invariant-loop-edge : goal.invariant-loop-edge
invariant-loop-edge l = record {
  sum : walk_weight l.graph l.edges ≡ l.total +ℤ walk_weight l.graph (drop l.edge-index l.edges);
  low : neg_ℤ (pos (2 ^ 63 * l.edge-index)) ≤ℤ l.total;
  high : l.total ≤ℤ pos (2 ^ 63 * l.edge-index);
}
