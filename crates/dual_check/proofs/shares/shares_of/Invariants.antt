use Rattle.graph_theory.proofs.Common.{◌≡◌, ℕ, ◌+◌, length, slice_index_or, int_sum_to}
use Rattle.dual_check.specs.Crossed.{total_at}
use Rattle.dual_check.specs.Shared.{set_dual, dual_with}
use Rattle.dual_check.proofs.shares.shares_of.Given as goal

abbrev pub invariant-loop-number : goal.invariant-loop-number
invariant-loop-number l = record {
  size : length l.with_vertex.items ≡ l.vertices + 1;
  whole : l.whole ≡ int_sum_to (λ a. set_dual l.sets (slice_index_or l.list a 0)) l.number-index;
  exact : (v : ℕ) → total_at l.with_vertex.items v ≡ int_sum_to (λ a. dual_with l.sets v (slice_index_or l.list a 0)) l.number-index;
}
