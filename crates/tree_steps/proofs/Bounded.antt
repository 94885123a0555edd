-- What a step leaves of the bounds of a search, where the duals and the clock stay.
use Rattle.alt_forest.proofs.Common.{◌≡◌, ℕ, ℤ, ◌≤◌, true, false, List, Option, ap, ◌∙◌, both_ways, false_from_ne_true, Multigraph, holds, Blossom, IsNested, is_vertex}
use Rattle.alt_forest.proofs.Common.{names_of, name_no_vertex, Item, with_moment, places_stay, HasShape}
use Rattle.alt_forest.specs.declared.search.Search.{Search}
use Rattle.search_keys.specs.declared.bounds.EventBounds.{EventBounds}
use Rattle.search_keys.specs.Bounds.{HasHints, HasPlaces, hint_of, key_of}
use Rattle.search_keys.specs.Looks.{is_stale_at, stale_ends}
use Rattle.search_keys.proofs.Stale.{KeepsOuter, stale_fewer, stale_still}

-- a vertex is no blossom
pub vertex_no_name : (n : ℕ) (bs : List Blossom) (v : ℕ) → IsNested n bs → is_vertex n v ≡ true → holds (names_of bs) v ≡ false
vertex_no_name n bs v h is = false_from_ne_true (holds (names_of bs) v) (λ m. both_ways (is_vertex n v) (name_no_vertex n bs v h m) is)

-- b has the bounds before, c those with the moments of blossoms that the step has changed, and d those after the noted vertices have
-- been looked at: no vertex has become stale
pub stale_after : (f k : Search) (b c d : EventBounds) → HasShape f → HasHints f.graph b → KeepsOuter f k → c ≡ record b { moments = c.moments }
    → ((v : ℕ) → is_vertex k.graph.vertices v ≡ true → is_stale_at k c v ≡ false → is_stale_at k d v ≡ false) → stale_ends k d ≤ stale_ends f b
stale_after f k b c d shape hints keeps rest still =
    let hint : (v : ℕ) → is_vertex f.graph.vertices v ≡ true → hint_of c v ≡ hint_of b v = λ v is. ap (λ (x : EventBounds). hint_of x v) rest in
    let key : (v : ℕ) → is_vertex f.graph.vertices v ≡ true → key_of c v ≡ key_of b v = λ v is. ap (λ (x : EventBounds). key_of x v) rest in
    stale_fewer f k b d keeps.graph (λ v is fresh.
    still v (ap (λ (g : Multigraph). is_vertex g.vertices v) keeps.graph ∙ is) (stale_still f k b c shape hints keeps hint key v is fresh))

-- one moment that is set or taken away leaves all places
pub places_with : (g : Multigraph) (b : EventBounds) (item : Item) (m : Option ℤ) → HasPlaces g b → HasPlaces g (record b { moments = with_moment b.moments item m })
places_with g b item m h =
    let same = places_stay b.moments item m in
    record { edges = same.0 ∙ h.edges; nodes = same.1 ∙ h.nodes; hints = h.hints; keys = h.keys }
