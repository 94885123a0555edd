use Rattle.graph_theory.proofs.Common.{◌≡◌, ℕ, ◌+◌, ◌-◌, ◌≤◌, ◌+ℤ◌, length, IsEdgeNumber, edge_of}
use Rattle.dual_check.specs.Crossed.{total_at}
use Rattle.dual_check.specs.Links.{passed}
use Rattle.dual_check.specs.NestedTotals.{reached, stand_of}
use Rattle.dual_check.proofs.nested.add_nested.Given as goal

abbrev pub invariant-loop-k : goal.invariant-loop-k
invariant-loop-k l = record {
  table : length l.stands.items ≡ l.graph.vertices + 1;
  early : (w : ℕ) → stand_of l.stands.items w ≤ passed l.forest (length l.sets) (length l.sets - l.k);
  size : length l.totals ≡ length l.initial.totals;
  exact : (e : ℕ) → IsEdgeNumber l.graph e → total_at l.totals e
      ≡ (total_at l.initial.totals e +ℤ reached l.sets l.alone l.forest (edge_of l.graph e) (passed l.forest (length l.sets) (length l.sets - l.k)));
}
