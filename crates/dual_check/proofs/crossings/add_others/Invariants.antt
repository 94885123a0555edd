use Rattle.graph_theory.proofs.Common.{◌≡◌, ℕ, ◌+◌, false, length, IsEdgeNumber, edge_of}
use Rattle.graph_parts.specs.Marks.{is_marked}
use Rattle.dual_check.specs.Crossed.{total_at}
use Rattle.dual_check.specs.Shared.{crossed_at, other_dual}
use Rattle.dual_check.proofs.crossings.add_others.Given as goal

abbrev pub invariant-loop-k : goal.invariant-loop-k
invariant-loop-k l = record {
  size : length l.totals.items ≡ length l.graph.edges + 1;
  marks : length l.marks.items ≡ l.graph.vertices + 1;
  none : (v : ℕ) → is_marked l.marks.items v ≡ false;
  exact : (e : ℕ) → IsEdgeNumber l.graph e → total_at l.totals.items e ≡ crossed_at l.sets (other_dual l.sets l.taken) l.k (edge_of l.graph e);
}
