use Rattle.graph_theory.proofs.Common.{◌≡◌, ◌≤◌, ◌+◌, ℕ, ◌≤ℤ◌, IsEdgeNumber, IsWeight, edge_of}
use Rattle.search_start.proofs.weights.least_weight.Given as goal

abbrev pub invariant-loop-place : goal.invariant-loop-place
invariant-loop-place g l = record {
  started : 1 ≤ l.place;
  weight : IsWeight l.least;
  below : (e : ℕ) → 1 ≤ e → e ≤ l.place → l.least ≤ℤ (edge_of l.graph e).w;
  some : (e : ℕ) × IsEdgeNumber l.graph e × ((edge_of l.graph e).w ≡ l.least);
  steps : l.steps ≡ l.fn.steps + l.place;
}
