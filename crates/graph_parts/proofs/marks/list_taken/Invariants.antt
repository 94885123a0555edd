use Rattle.graph_theory.proofs.Common.{◌≡◌, ℕ, ◌<◌, ◌≤◌, ◌↔◌, true, All, IsStrictlyIncreasing, holds}
use Rattle.graph_parts.specs.Marks.{is_marked}
use Rattle.graph_parts.proofs.marks.list_taken.Given as goal

abbrev pub invariant-loop-number : goal.invariant-loop-number
invariant-loop-number l = record {
  ascending : IsStrictlyIncreasing l.edges.items;
  below : All (λ v. v < l.number) l.edges.items;
  exact : (v : ℕ) → (holds l.edges.items v ≡ true) ↔ ((1 ≤ v) × (v < l.number) × (is_marked l.taken v ≡ true));
}
