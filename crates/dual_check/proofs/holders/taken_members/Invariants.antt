use Rattle.graph_theory.proofs.Common.{ℕ, ◌≤◌, All, IsGivenWithin}
use Rattle.weighted_graph.specs.Grouped.{items_of}
use Rattle.dual_check.specs.Shared.{HoldsTaken}
use Rattle.dual_check.proofs.holders.taken_members.Given as goal

abbrev pub invariant-loop-k : goal.invariant-loop-k
invariant-loop-k l = record {
  within : (n : ℕ) → All (IsGivenWithin n) l.sets → All (λ e. e.0 ≤ n) l.entries.items;
  holders : (v : ℕ) → HoldsTaken l.sets l.taken v l.k (items_of l.entries.items v);
}
