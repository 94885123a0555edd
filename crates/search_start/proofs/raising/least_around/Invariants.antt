use Rattle.graph_theory.proofs.Common.{◌≤ℤ◌, IsWeight, edge_of}
use Rattle.search_start.proofs.LeastSeen.{HaveSeen}
use Rattle.search_start.proofs.raising.least_around.Given as goal

abbrev pub invariant-loop-place : goal.invariant-loop-place
invariant-loop-place g l = record {
  weight : IsWeight l.least;
  low : l.search.start ≤ℤ l.least;
  each : HaveSeen (λ e. l.least ≤ℤ (edge_of l.search.graph e).w) l.incidence l.place;
}
