use Rattle.alt_forest.proofs.Common.{◌≡◌, ℕ, ◌+◌, true, false, drop, is_vertex, state_of}
use Rattle.search_keys.specs.Bounds.{IsBoundingBut}
use Rattle.search_keys.specs.Looks.{ends_outer, is_stale_at}
use Rattle.search_keys.proofs.bounds.EventBounds.enter_scanned.Given as goal

abbrev pub invariant-loop-place : goal.invariant-loop-place
invariant-loop-place g l = record {
  vertex_keys : IsBoundingBut l.search l.self (drop l.place l.search.scanned.items);
  edge_ends : l.steps + ends_outer (state_of l.search) (drop l.place l.search.scanned.items) ≡ l.fn.steps + ends_outer (state_of l.search) l.search.scanned.items;
  known_keys : (v : ℕ) → is_vertex l.search.graph.vertices v ≡ true → is_stale_at l.search l.fn.self v ≡ false → is_stale_at l.search l.self v ≡ false;
}
