-- What the private calls keep while vertices give their keys. Only clauses of private calls cite
-- this module.
use Rattle.std.specs.Prelude.{◌≡◌, ◌≢◌, ℕ, ℤ, pos, neg_ℤ, ◌+ℤ◌, ◌*ℤ◌, ◌≤ℤ◌, true, false, Option}
use Rattle.std.specs.Prelude.{Some, None, vec_len}
use Rattle.graph_theory.specs.declared.limits.TheConstants.{NUMBER_LIMIT, WEIGHT_LIMIT}
use Rattle.graph_theory.specs.Graph.{IsEdgeNumber, edge_of, touches}
use Rattle.blossom_arena.specs.Family.{is_vertex, outermost}
use Rattle.blossom_arena.specs.declared.label.Label.TheVariants.{Outer}
use Rattle.alt_forest.specs.declared.search.Search.{Search}
use Rattle.alt_forest.specs.State.{State}
use Rattle.search_tables.specs.IncidentEdges.{LeadsTo}
use Rattle.alt_forest.specs.Searches.{state_of}
use Rattle.search_keys.specs.declared.bounds.EventBounds.{EventBounds}
use Rattle.search_keys.specs.declared.keys.Giver.{Giver}
use Rattle.search_keys.specs.declared.keys.Least.{Least}
use Rattle.search_keys.specs.Bounds.{HasPlaces, HasHints, IsBoundEntered, IsKey, IsKeyed, bound_of}
use Rattle.search_keys.specs.Bounds.{hint_of, kept_key, key_from, reach}
use Rattle.search_keys.specs.Looks.{is_stale_at}

-- a reach in range: a sum that is as near as `HasNearSums` says, less the clock
abbrev pub IsReach : ℤ → Type 0
IsReach x = (neg_ℤ (WEIGHT_LIMIT +ℤ (pos 2 *ℤ NUMBER_LIMIT)) ≤ℤ x)
    × (x ≤ℤ (pos 3 *ℤ WEIGHT_LIMIT))

-- what is at hand of a vertex is what holds in the state
pub record IsGiver (s : State) (clock : ℤ) (giver : Giver) : Type 0 where
  pub vertex : is_vertex s.graph.vertices giver.vertex ≡ true
  pub node : giver.node ≡ outermost s.blossoms giver.vertex
  pub outer : s.label (outermost s.blossoms giver.vertex) ≡ Outer
  pub reach : giver.reach ≡ reach s clock giver.vertex
  pub in_range : IsReach giver.reach

-- a vertex lies in an outer node, another one than this
pub record IsApart (s : State) (node far : ℕ) : Type 0 where
  pub other : outermost s.blossoms far ≢ node
  pub outer : s.label (outermost s.blossoms far) ≡ Outer

-- the key that an edge of weight w from the vertex far gives a vertex of this node, or None if it
-- gives none
abbrev pub IsKeyTo : State → ℤ → ℕ → ℕ → ℤ → Option ℤ → Type 0
IsKeyTo s clock node far w None = IsApart s node far → ⊥
IsKeyTo s clock node far w (Some k) = IsApart s node far × (k ≡ key_from s clock far w) × IsKey k

-- the vertex v has got the key k by the edge e, or none if that is 0
pub record IsGiven (b c : EventBounds) (v e : ℕ) (k : ℤ) : Type 0 where
  pub hint : hint_of c v ≡ e
  pub key : kept_key c v ≡ k
  pub hints : (a : ℕ) → a ≢ v → hint_of c a ≡ hint_of b a
  pub keys : (a : ℕ) → a ≢ v → kept_key c a ≡ kept_key b a
  pub moments : c.moments ≡ b.moments
  pub hints_size : vec_len c.hints ≡ vec_len b.hints
  pub keys_size : vec_len c.keys ≡ vec_len b.keys

-- keys have come or been lowered, each by an edge that gives it, and the vertices that were entered
-- still are
pub record IsLowered (s : Search) (b c : EventBounds) : Type 0 where
  pub places : HasPlaces s.graph c
  pub hints : HasHints s.graph c
  pub keyed : (u : ℕ) (k : ℤ) → IsKeyed b u k → IsKeyed c u k
  pub entered : (u : ℕ) → is_vertex s.graph.vertices u ≡ true
      → IsBoundEntered (state_of s) s.clock b u → IsBoundEntered (state_of s) s.clock c u
  pub others : (a : ℕ) → is_vertex s.graph.vertices a ≡ false
      → bound_of c.moments a ≡ bound_of b.moments a
  pub known_keys : (u : ℕ) → is_vertex s.graph.vertices u ≡ true → is_stale_at s b u ≡ false
      → is_stale_at s c u ≡ false

-- the edge e has given the key from the vertex v to its other end, if that lies in another node
abbrev pub HasGivenBy : Search → EventBounds → ℕ → ℕ → Type 0
HasGivenBy s b v e = (u : ℕ) (w : ℤ) → LeadsTo s.graph e v u w
    → outermost s.arena.blossoms u ≢ outermost s.arena.blossoms v
    → IsKeyed b u (key_from (state_of s) s.clock v w)

-- if the vertex v lies in an outer node, each edge at it has given its key
abbrev pub HasGiven : Search → EventBounds → ℕ → Type 0
HasGiven s b v = (state_of s).label (outermost s.arena.blossoms v) ≡ Outer → (e : ℕ)
    → IsEdgeNumber s.graph e → touches (edge_of s.graph e) v ≡ true → HasGivenBy s b v e

-- what has been found for a vertex is a key of at most k
pub record IsLow (least : Least) (k : ℤ) : Type 0 where
  pub found : least.edge ≢ 0
  pub low : least.key ≤ℤ k

-- what has been found for the vertex v, if anything, is the key that this edge gives it
pub record IsGiving (s : State) (clock : ℤ) (v : ℕ) (least : Least) : Type 0 where
  pub far : ℕ
  pub weight : ℤ
  pub leads : LeadsTo s.graph least.edge v far weight
  pub apart : IsApart s (outermost s.blossoms v) far
  pub key : least.key ≡ key_from s clock far weight
  pub in_range : IsKey least.key

abbrev pub IsFrom : State → ℤ → ℕ → Least → Type 0
IsFrom s clock v least = least.edge ≢ 0 → IsGiving s clock v least

-- the edge e gives the vertex v no lower key than what has been found
abbrev pub IsNoLower : State → ℤ → ℕ → Least → ℕ → Type 0
IsNoLower s clock v least e = (far : ℕ) (w : ℤ) → LeadsTo s.graph e v far w
    → IsApart s (outermost s.blossoms v) far → IsLow least (key_from s clock far w)
