-- What a sweep sees at an exposed vertex (chapter 26): the edge of least slack, and the least slack
-- of an edge that leads elsewhere.
use Rattle.std.specs.Prelude.{◌≡◌, ◌≢◌, ℕ, ◌+◌, ◌<◌, ℤ, pos, ◌+ℤ◌, ◌*ℤ◌, ◌≤ℤ◌, true, false, ltb}
use Rattle.std.specs.Prelude.{if◌then◌else◌}
use Rattle.graph_theory.specs.declared.limits.TheConstants.{WEIGHT_LIMIT}
use Rattle.graph_theory.specs.Graph.{Multigraph, IsEdgeNumber, edge_of, touches, other_end}
use Rattle.blossom_arena.specs.Family.{is_vertex}
use Rattle.alt_forest.specs.State.{State}
use Rattle.alt_forest.specs.Counts.{is_exposed}
use Rattle.alt_forest.specs.Trees.{SameParity}
use Rattle.search_start.specs.declared.reaching.Reach.{Reach}
use Rattle.search_start.specs.declared.reaching.Lead.{Lead}

-- an edge at v with its far end and its slack, which is even and in range
pub record IsReach (g : Multigraph) (slack : ℕ → ℤ) (v : ℕ) (r : Reach) : Type 0 where
  pub is_edge : IsEdgeNumber g r.edge
  pub at_vertex : touches (edge_of g r.edge) v ≡ true
  pub far_is : other_end (edge_of g r.edge) v ≡ r.far
  pub far_vertex : is_vertex g.vertices r.far ≡ true
  pub slack_is : slack r.edge ≡ r.by
  pub low : pos 0 ≤ℤ r.by
  pub high : r.by ≤ℤ (pos 4 *ℤ WEIGHT_LIMIT)
  pub even : SameParity r.by (pos 0)

-- an edge of this far end and slack has no less slack than the least one, nor than the next one
-- where it leads elsewhere than the least one; then so does the next one
abbrev pub IsBehind : Lead → ℕ → ℤ → Type 0
IsBehind l far slack = (l.least.by ≤ℤ slack)
    × (far ≢ l.least.far → (l.next.far ≢ l.least.far) × (l.next.by ≤ℤ slack))

-- Two edges at v: no edge at v has less slack than the first of them, and none that leads elsewhere
-- than the first has less than the second.
pub record IsLead (g : Multigraph) (slack : ℕ → ℤ) (v : ℕ) (l : Lead) : Type 0 where
  pub least : IsReach g slack v l.least
  pub next : IsReach g slack v l.next
  pub order : l.least.by ≤ℤ l.next.by
  pub each : (e : ℕ) → IsEdgeNumber g e → touches (edge_of g e) v ≡ true
      → IsBehind l (other_end (edge_of g e) v) (slack e)

-- an exposed vertex can take the far end of the first of them if the dual there falls by so much:
-- it doesn't fall below the start, and its own dual rises by the least slack and as much more,
-- which no other slack forbids
pub record CanTake (far start : ℤ) (l : Lead) (fall : ℤ) : Type 0 where
  pub low : pos 0 ≤ℤ fall
  pub even : SameParity fall (pos 0)
  pub next : (l.least.by +ℤ fall) ≤ℤ l.next.by
  pub room : (start +ℤ fall) ≤ℤ far

-- how often the sweeps, with the round that ends them, look at each edge of a graph with n vertices
-- at most
abbrev pub sweep_looks : ℕ → ℕ
sweep_looks n = if ltb n 10 then 0 else 6

-- the vertex v is exposed, and no node before it is
pub record IsFirstExposed (s : State) (v : ℕ) : Type 0 where
  pub vertex : is_vertex s.graph.vertices v ≡ true
  pub exposed : is_exposed s v ≡ true
  pub before : (a : ℕ) → a < v → is_exposed s a ≡ false

-- how often the start of a pass does so
abbrev pub start_looks : ℕ → ℕ
start_looks n = 4 + sweep_looks n
