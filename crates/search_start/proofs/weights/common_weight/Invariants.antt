use Rattle.graph_theory.proofs.Common.{◌≡◌, ◌≤◌, ◌<◌, ◌+◌, ℕ, edge_at}
use Rattle.search_start.proofs.weights.common_weight.Given as goal

abbrev pub invariant-loop-place : goal.invariant-loop-place
invariant-loop-place g l = record {
  started : 1 ≤ l.place;
  alike : (j : ℕ) → j < l.place → (edge_at l.graph j).w ≡ (edge_at l.graph 0).w;
  steps : l.steps ≡ l.fn.steps + l.place;
}
