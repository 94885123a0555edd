use Rattle.graph_theory.proofs.Common.{ℕ, ◌<◌, get_or, edges_around}
use Rattle.search_keys.specs.Keys.{HasGivenBy, IsLowered}
use Rattle.search_keys.proofs.bounds.EventBounds.lower_around.Given as goal

abbrev pub invariant-loop-incident : goal.invariant-loop-incident
invariant-loop-incident l = record {
  lowered : IsLowered l.search l.fn.self l.self;
  given : (i : ℕ) → i < l.incident-index → HasGivenBy l.search l.self l.giver.vertex (get_or (edges_around l.search.graph l.giver.vertex) i 0);
}
