use Rattle.graph_theory.proofs.Common.{◌≡◌, ℕ, ◌+ℤ◌, length, IsEdgeNumber, edge_of}
use Rattle.dual_check.specs.Crossed.{total_at}
use Rattle.dual_check.proofs.CrossLemmas.{given_by}
use Rattle.dual_check.proofs.crossings.add_set.Given as goal

abbrev pub invariant-loop-vertex : goal.invariant-loop-vertex
invariant-loop-vertex l = record {
  size : length l.totals ≡ length l.initial.totals;
  exact : (e : ℕ) → IsEdgeNumber l.graph e → total_at l.totals e ≡ (total_at l.initial.totals e +ℤ given_by l.set.vertices l.vertex-index (edge_of l.graph e) l.set.dual);
}
