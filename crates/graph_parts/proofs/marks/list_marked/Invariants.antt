use Rattle.graph_theory.proofs.Common.{◌≡◌, ℕ, ◌<◌, ◌≤◌, ◌↔◌, true, All, IsStrictlyIncreasing, holds}
use Rattle.graph_parts.specs.Marks.{is_marked}
use Rattle.graph_parts.proofs.marks.list_marked.Given as goal

abbrev pub invariant-loop-number : goal.invariant-loop-number
invariant-loop-number l = record {
  ascending : IsStrictlyIncreasing l.vertices.items;
  below : All (λ v. v < l.number) l.vertices.items;
  exact : (v : ℕ) → (holds l.vertices.items v ≡ true) ↔ ((1 ≤ v) × (v < l.number) × (is_marked l.marks v ≡ true));
}
