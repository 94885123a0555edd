use Rattle.graph_theory.proofs.Common.{◌≡◌, ℕ, ◌≤◌, [], ◌∷◌, ◌++◌, All, take, cond, holds}
use Rattle.weighted_graph.specs.Grouped.{items_of}
use Rattle.dual_check.proofs.holders.add_members.Given as goal

abbrev pub invariant-loop-vertex : goal.invariant-loop-vertex
invariant-loop-vertex l = record {
  within : (n : ℕ) → All (λ m. m ≤ n) l.members → All (λ e. e.0 ≤ n) l.initial.entries.items → All (λ e. e.0 ≤ n) l.entries.items;
  lists : (v : ℕ) → items_of l.entries.items v
      ≡ cond (holds (take l.vertex-index l.members) v) (items_of l.initial.entries.items v ++ l.fn.set ∷ []) (items_of l.initial.entries.items v);
}
