use Rattle.alt_forest.proofs.Common.{ℕ, ◌<◌, get_or, edges_around, state_of}
use Rattle.search_keys.specs.Keys.{IsFrom, IsNoLower}
use Rattle.search_keys.proofs.keys.least_key.Given as goal

abbrev pub invariant-loop-incident : goal.invariant-loop-incident
invariant-loop-incident l = record {
  from : IsFrom (state_of l.search) l.search.clock l.v l.least;
  lowest : (i : ℕ) → i < l.incident-index → IsNoLower (state_of l.search) l.search.clock l.v l.least (get_or (edges_around l.search.graph l.v) i 0);
}
