-- Two matchings along which one can go in turn (chapter 24). Only clauses of private calls cite
-- this module.
use Rattle.std.specs.Prelude.{◌≡◌, ◌≢◌, ℕ, true, All, Option, None}
use Rattle.graph_theory.specs.Graph.{Multigraph, HasNoLoop, IsEdgeWithin}
use Rattle.blossom_arena.specs.Family.{is_vertex}
use Rattle.augment.specs.Matching.{AreVertexMates}

-- two matchings of a graph without loops: the other one misses v, and else no vertex that the first
-- doesn't
pub record CanAlternate (g : Multigraph) (m other : ℕ → Option ℕ) (v : ℕ) : Type 0 where
  pub ends : All (IsEdgeWithin g.vertices) g.edges
  pub loopless : HasNoLoop g
  pub first : AreVertexMates g m
  pub second : AreVertexMates g other
  pub start : is_vertex g.vertices v ≡ true
  pub free : other v ≡ None
  pub fewer : (w : ℕ) → is_vertex g.vertices w ≡ true → w ≢ v → other w ≡ None → m w ≡ None
