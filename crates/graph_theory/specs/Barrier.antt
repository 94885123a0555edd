-- Components of what is left where a set of vertices is removed, and the sets that violate Tutte's
-- condition (chapter 24). Such a set is called a barrier here.
use Rattle.std.specs.Prelude.{◌≡◌, ℕ, ◌%◌, ◌<◌, true, false, ◌↔◌, List, length, All, slice_index}
use Rattle.std.specs.List.Sorted.{IsStrictlyIncreasing}
use Rattle.graph_theory.specs.Graph.{Multigraph}
use Rattle.graph_theory.specs.Parts.{holds, IsVertexSet}
use Rattle.graph_theory.specs.Walk.{IsWalk, walk_end, walk_vertices}

-- a walk joins v and w that comes to no vertex of the removed set
pub record AreTogether (g : Multigraph) (removed : List ℕ) (v w : ℕ) : Type 0 where
  pub by : List ℕ
  pub walk : IsWalk g v by
  pub ends : walk_end g v by ≡ w
  pub avoids : All (λ x. holds removed x ≡ false) (walk_vertices g v by)

-- a component: one of the vertices outside the removed set, and all that are together with it
pub record IsComponent (g : Multigraph) (removed component : List ℕ) : Type 0 where
  pub vertices : IsVertexSet g.vertices component
  pub outside : All (λ v. holds removed v ≡ false) component
  pub some : 0 < length component
  pub joined : (v w : ℕ) → holds component v ≡ true → holds component w ≡ true
      → AreTogether g removed v w
  pub whole : (v w : ℕ) → holds component v ≡ true → AreTogether g removed v w → holds component w
      ≡ true

-- v is the least vertex of a component of odd size
abbrev pub IsOddHead : Multigraph → List ℕ → ℕ → Type 0
IsOddHead g removed v = (component : List ℕ) × IsComponent g removed component
    × (length component % 2 ≡ 1) × (slice_index component 0 ≡ v)

-- n components have odd size: n vertices are the least of one
pub record IsOddCount (g : Multigraph) (removed : List ℕ) (n : ℕ) : Type 0 where
  pub heads : List ℕ
  pub ascending : IsStrictlyIncreasing heads
  pub exact : (v : ℕ) → (holds heads v ≡ true) ↔ IsOddHead g removed v
  pub size : length heads ≡ n

-- a barrier: more components have odd size than the set has members
abbrev pub IsBarrier : Multigraph → List ℕ → Type 0
IsBarrier g removed = (n : ℕ) × IsOddCount g removed n × (length removed < n)
