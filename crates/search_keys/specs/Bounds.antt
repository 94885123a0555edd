-- Bounds for the moments at which events come, by vertex (Schrijver, Combinatorial Optimization,
-- volume A, chapter 26). While a vertex v lies in an outer node, its dual sum rises as the clock
-- does, so what an edge uv leaves of its doubled weight for u, the key from v, stays what it is;
-- and the edge's event comes when the dual sum of u has come up to that key. A vertex keeps the
-- least key from outer vertices of other nodes, or one that is lower: where one of these vertices
-- is taken into u's own node, or into no tree, its key is still a bound. So a key is given once,
-- when v comes into an outer node, whatever becomes of u.
use Rattle.std.specs.Prelude.{◌≡◌, ◌≢◌, ℕ, ◌+◌, ℤ, pos, neg_ℤ, ◌+ℤ◌, ◌-ℤ◌, ◌*ℤ◌, ◌≤ℤ◌, true, false}
use Rattle.std.specs.Prelude.{◌==◌, if◌then◌else◌, List, [], length, slice_index_or, Option, Some}
use Rattle.std.specs.Prelude.{None, vec_len, ⊤}
use Rattle.graph_theory.specs.declared.limits.TheConstants.{NUMBER_LIMIT, WEIGHT_LIMIT}
use Rattle.graph_theory.specs.Graph.{Multigraph, IsEdgeNumber, edge_of, touches}
use Rattle.graph_theory.specs.Parts.{holds}
use Rattle.blossom_arena.specs.Family.{is_vertex, names_of, outermost}
use Rattle.blossom_arena.specs.declared.label.Label.{Label}
use Rattle.blossom_arena.specs.declared.label.Label.TheVariants.{Outer, Inner, Out}
use Rattle.search_heap.specs.declared.item.Item.{Item}
use Rattle.search_heap.specs.declared.item.Item.TheVariants.{Blossom as OfNode}
use Rattle.search_heap.specs.Moments.{Moments, moment_of}
use Rattle.alt_forest.specs.declared.search.Search.{Search}
use Rattle.alt_forest.specs.State.{State, IsOutermost, dual_sum}
use Rattle.alt_forest.specs.Trees.{node_limit}
use Rattle.search_tables.specs.IncidentEdges.{LeadsTo}
use Rattle.alt_forest.specs.Searches.{state_of}
use Rattle.alt_forest.specs.Entries.{IsBlossomEntered}
use Rattle.search_keys.specs.declared.bounds.EventBounds.{EventBounds}

-- the moment that is kept for a vertex or a blossom, by its node
abbrev pub bound_of : Moments → ℕ → Option ℤ
bound_of q a = moment_of q (OfNode a)

-- the edge that gave a vertex its key, or 0 if it has none
abbrev pub hint_of : EventBounds → ℕ → ℕ
hint_of b v = slice_index_or b.hints.items v 0

-- what stands for the key of a vertex, whether it has one or not
abbrev pub kept_key : EventBounds → ℕ → ℤ
kept_key b v = slice_index_or b.keys.items v (pos 0)

-- the key of a vertex that has one
abbrev pub key_of : EventBounds → ℕ → Option ℤ
key_of b v = if hint_of b v == 0 then None else Some (kept_key b v)

-- how much the dual sum of a vertex in an outer node is ahead of the clock: it stays so while both
-- rise
abbrev pub reach : State → ℤ → ℕ → ℤ
reach s clock v = dual_sum s v -ℤ clock

-- the key that an edge of weight w from the vertex v gives its other end: its doubled weight, or 0
-- in the pass without weights, less the reach of v
abbrev pub key_from : State → ℤ → ℕ → ℤ → ℤ
key_from s clock v w = (if s.weighted then pos 2 *ℤ w else pos 0) -ℤ reach s clock v

-- a vertex has a key of at most k
pub record IsKeyed (b : EventBounds) (v : ℕ) (k : ℤ) : Type 0 where
  pub key : ℤ
  pub has : key_of b v ≡ Some key
  pub low : key ≤ℤ k

-- x is half of y where y is even, and no later than any number that is at least half of y
pub record IsHalf (y x : ℤ) : Type 0 where
  pub even : (half : ℤ) → y ≡ half +ℤ half → x ≡ half
  pub low : (z : ℤ) → y ≤ℤ (z +ℤ z) → x ≤ℤ z

-- When the key of a vertex comes up, by the label of its node, its dual sum and the clock: at the
-- key less its dual sum where it is labelled out, and at half the key less its reach where it is
-- outer, since its dual sum rises too then. In an inner node any moment will do.
abbrev pub ComesUp : Label → ℤ → ℤ → Option ℤ → Option ℤ → Type 0
ComesUp Inner sum clock key moment = ⊤
ComesUp Out sum clock None moment = moment ≡ None
ComesUp Out sum clock (Some k) moment = moment ≡ Some (k -ℤ sum)
ComesUp Outer sum clock None moment = moment ≡ None
ComesUp Outer sum clock (Some k) moment = (x : ℤ) × (moment ≡ Some x)
    × IsHalf (k -ℤ (sum -ℤ clock)) x

-- a vertex has the moment at which its key comes up
abbrev pub IsBoundEntered : State → ℤ → EventBounds → ℕ → Type 0
IsBoundEntered s clock b v = ComesUp (s.label (outermost s.blossoms v)) (dual_sum s v) clock
    (key_of b v) (bound_of b.moments v)

-- a place for each node and each vertex, and none for an edge
pub record HasPlaces (g : Multigraph) (b : EventBounds) : Type 0 where
  pub edges : length b.moments.edges ≡ 0
  pub nodes : length b.moments.blossoms ≡ node_limit g.vertices
  pub hints : vec_len b.hints ≡ g.vertices + 1
  pub keys : vec_len b.keys ≡ g.vertices + 1

-- a key in range: a doubled weight, at most 2W, less a reach
abbrev pub IsKey : ℤ → Type 0
IsKey k = (neg_ℤ (pos 5 *ℤ WEIGHT_LIMIT) ≤ℤ k)
    × (k ≤ℤ ((pos 3 *ℤ WEIGHT_LIMIT) +ℤ (pos 2 *ℤ NUMBER_LIMIT)))

-- the edge that gave a vertex its key is one at that vertex
abbrev pub HasHints : Multigraph → EventBounds → Type 0
HasHints g b = (v : ℕ) → is_vertex g.vertices v ≡ true → hint_of b v ≢ 0
    → IsEdgeNumber g (hint_of b v) × (touches (edge_of g (hint_of b v)) v ≡ true)
    × IsKey (kept_key b v)

-- The duals of the nodes that hold a vertex add up to a number from -W to 3W, for the greatest
-- weight W, or no farther outside than the clock: a pass begins so, and a change by d moves the sum
-- by d at most.
pub record HasNearSums (s : State) (clock : ℤ) : Type 0 where
  pub low : (v : ℕ) → is_vertex s.graph.vertices v ≡ true
      → neg_ℤ (WEIGHT_LIMIT +ℤ clock) ≤ℤ dual_sum s v
  pub high : (v : ℕ) → is_vertex s.graph.vertices v ≡ true
      → dual_sum s v ≤ℤ ((pos 3 *ℤ WEIGHT_LIMIT) +ℤ clock)

-- the bounds of a search but for what these vertices, which have been noted, have still to give and
-- to enter
pub record IsBoundingBut (s : Search) (b : EventBounds) (noted : List ℕ) : Type 0 where
  pub low : pos 0 ≤ℤ s.clock
  pub high : s.clock ≤ℤ NUMBER_LIMIT
  -- the sums are such that keys and moments fit 64 bits
  pub near : HasNearSums (state_of s) s.clock
  pub places : HasPlaces s.graph b
  pub hints : HasHints s.graph b
  -- each edge from an outer vertex gives its key to its other end, if that lies in another node
  pub keys : (e v u : ℕ) (w : ℤ) → LeadsTo s.graph e v u w → holds noted v ≡ false
      → (state_of s).label (outermost s.arena.blossoms v) ≡ Outer
      → outermost s.arena.blossoms u ≢ outermost s.arena.blossoms v
      → IsKeyed b u (key_from (state_of s) s.clock v w)
  -- each vertex is entered with the moment at which its key comes up
  pub vertices : (v : ℕ) → is_vertex s.graph.vertices v ≡ true → holds noted v ≡ false
      → IsBoundEntered (state_of s) s.clock b v
  -- each inner blossom is entered with the moment at which its dual comes to 0
  pub blossoms : (a : ℕ) → holds (names_of s.arena.blossoms) a ≡ true
      → IsBlossomEntered (state_of s) s.clock b.moments a
  -- the search's own queue isn't used
  pub unused : (item : Item) → moment_of s.queue item ≡ None

-- the bounds of a search: no event comes before the least moment
abbrev pub IsBounding : Search → EventBounds → Type 0
IsBounding s b = IsBoundingBut s b []

-- nothing depends on the moment of this node: it is a vertex of an inner node, or a blossom that
-- isn't an inner node
pub record IsIdle (s : State) (a : ℕ) : Type 0 where
  pub vertex : is_vertex s.graph.vertices a ≡ true → s.label (outermost s.blossoms a) ≡ Inner
  pub blossom : holds (names_of s.blossoms) a ≡ true → IsOutermost s a → s.label a ≢ Inner
