-- How a pass begins (chapter 26): duals that are feasible, and vertices matched in pairs by tight
-- edges, before there is any blossom or tree. Of this module public clauses cite `IsBegun` and
-- `JoinsExposed`, and of `Sweeps` `sweep_looks`, `start_looks` and `IsFirstExposed`.
use Rattle.std.specs.Prelude.{◌≡◌, ℕ, ◌<◌, ℤ, pos, ◌+ℤ◌, ◌*ℤ◌, ◌≤ℤ◌, true, false, [], Option, None}
use Rattle.std.specs.Prelude.{is_some}
use Rattle.std.specs.Option.{ForSome}
use Rattle.graph_theory.specs.declared.limits.TheConstants.{WEIGHT_LIMIT}
use Rattle.graph_theory.specs.Graph.{IsEdgeNumber, IsWeight, edge_of, touches, other_end}
use Rattle.blossom_arena.specs.Family.{is_vertex}
use Rattle.blossom_arena.specs.declared.label.Label.TheVariants.{Out}
use Rattle.alt_forest.specs.State.{State, IsExposed, IsTight, slack_of}
use Rattle.alt_forest.specs.Trees.{SameParity}

-- No blossom and no tree. The dual of each vertex has the parity of the start and isn't below it;
-- if weights aren't used it is 0.
pub record IsBegun (s : State) (start : ℤ) : Type 0 where
  pub alone : s.blossoms ≡ []
  pub out : (a : ℕ) → s.label a ≡ Out
  pub start_weight : IsWeight start
  pub low : (v : ℕ) → is_vertex s.graph.vertices v ≡ true → start ≤ℤ s.dual v
  pub high : (v : ℕ) → is_vertex s.graph.vertices v ≡ true → s.dual v ≤ℤ (pos 3 *ℤ WEIGHT_LIMIT)
  pub parity : (v : ℕ) → is_vertex s.graph.vertices v ≡ true → SameParity (s.dual v) start
  pub unweighted : s.weighted ≡ false → (v : ℕ) → is_vertex s.graph.vertices v ≡ true → s.dual v
      ≡ pos 0

-- the dual of an exposed vertex can change by d: it doesn't fall below the start, no slack of its
-- edges becomes negative, and it keeps its parity and its range
pub record CanMove (s : State) (start : ℤ) (v : ℕ) (d : ℤ) : Type 0 where
  pub exposed : IsExposed s v
  pub low : start ≤ℤ (s.dual v +ℤ d)
  pub even : SameParity d (pos 0)
  pub each : (e : ℕ) → IsEdgeNumber s.graph e → touches (edge_of s.graph e) v ≡ true
      → d ≤ℤ slack_of s e
  pub high : (s.dual v +ℤ d) ≤ℤ (pos 3 *ℤ WEIGHT_LIMIT)
  pub unweighted : s.weighted ≡ false → d ≡ pos 0

-- an edge at v has this slack and leads to an exposed vertex
pub record CanPair (s : State) (v : ℕ) (slack : ℤ) (e : ℕ) : Type 0 where
  pub is_edge : IsEdgeNumber s.graph e
  pub at_vertex : touches (edge_of s.graph e) v ≡ true
  pub slack_is : slack_of s e ≡ slack
  pub exposed : IsExposed s (other_end (edge_of s.graph e) v)

-- a nonnegative even slack, and an edge at v of this slack that leads to an exposed vertex, or none
pub record IsRise (s : State) (v : ℕ) (slack : ℤ) (mate : Option ℕ) : Type 0 where
  pub low : pos 0 ≤ℤ slack
  pub even : SameParity slack (pos 0)
  pub mate_pairs : ForSome mate (CanPair s v slack)

-- an edge at v has no less slack than this, and if it has as much and leads to an exposed vertex an
-- edge has been kept
abbrev pub IsAbove : State → ℕ → ℤ → Option ℕ → ℕ → Type 0
IsAbove s v slack mate e = (slack ≤ℤ slack_of s e) × (CanPair s v slack e → is_some mate ≡ true)

-- a tight edge joins two exposed vertices, so that these can be matched by it
pub record JoinsExposed (s : State) (e : ℕ) : Type 0 where
  pub tight : IsTight s e
  pub u : IsExposed s (edge_of s.graph e).u
  pub v : IsExposed s (edge_of s.graph e).v

-- The duals of the first k vertices have been raised towards the weights, the others are still the
-- start: none is above the weight of an edge at it, and no vertex has a mate.
pub record IsLifted (s : State) (start : ℤ) (k : ℕ) : Type 0 where
  pub weighted : s.weighted ≡ true
  pub started : IsBegun s start
  pub below : (v e : ℕ) → is_vertex s.graph.vertices v ≡ true → IsEdgeNumber s.graph e
      → touches (edge_of s.graph e) v ≡ true → s.dual v ≤ℤ (edge_of s.graph e).w
  pub waiting : (v : ℕ) → is_vertex s.graph.vertices v ≡ true → k < v → s.dual v ≡ start
  pub unmated : (a : ℕ) → s.mate a ≡ None
