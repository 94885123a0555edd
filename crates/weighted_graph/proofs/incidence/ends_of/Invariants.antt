use Rattle.graph_theory.proofs.Common.{◌≡◌, ℕ, ◌*◌, ◌≤◌, length, All, edges_below}
use Rattle.weighted_graph.specs.Grouped.{items_of}
use Rattle.weighted_graph.proofs.incidence.ends_of.Given as goal

abbrev pub invariant-loop-place : goal.invariant-loop-place
invariant-loop-place l = record {
  size : length l.entries.items ≤ 2 * l.place;
  within : All (λ e. e.0 ≤ l.vertices) l.entries.items;
  exact : (v : ℕ) → items_of l.entries.items v ≡ edges_below (record { vertices = l.vertices; edges = l.edges }) v l.place;
}
