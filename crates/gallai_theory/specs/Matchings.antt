-- Matchings that needn't be perfect, the vertices that greatest ones miss, and their neighbours
-- (Schrijver, Combinatorial Optimization, volume A, chapter 24). Graphs may have loops: one counts
-- twice in a degree, so no matching uses it, and no vertex is its own neighbour outside a set.
use Rattle.std.specs.Prelude.{◌≡◌, ℕ, ◌≤◌, nat_lt, true, false, ◌↔◌, if◌then◌else◌, List, length}
use Rattle.std.specs.Prelude.{All, slice_index}
use Rattle.graph_theory.specs.Sums.{sum_to}
use Rattle.graph_theory.specs.Graph.{Multigraph, IsEdgeNumber, edge_of, touches, other_end, degree}
use Rattle.graph_theory.specs.Parts.{holds}

-- how many edges are used
abbrev pub edges_used : Multigraph → List ℕ → ℕ
edges_used g counts = sum_to (λ k. if nat_lt 0 (slice_index counts k) then 1 else 0)
    (length g.edges)

-- counts 0 or 1, one for each edge, with degree at most 1 at each vertex
pub record IsMatched (g : Multigraph) (counts : List ℕ) : Type 0 where
  pub one_each : length counts ≡ length g.edges
  pub at_most_once : All (λ c. c ≤ 1) counts
  pub degrees : (v : ℕ) → 1 ≤ v → v ≤ g.vertices → degree g counts v ≤ 1

-- a greatest matching: none has more edges
pub record IsGreatest (g : Multigraph) (counts : List ℕ) : Type 0 where
  pub matched : IsMatched g counts
  pub most : (other : List ℕ) → IsMatched g other → edges_used g other ≤ edges_used g counts

-- some greatest matching misses v
pub record IsMissable (g : Multigraph) (v : ℕ) : Type 0 where
  pub low : 1 ≤ v
  pub high : v ≤ g.vertices
  pub counts : List ℕ
  pub greatest : IsGreatest g counts
  pub missed : degree g counts v ≡ 0

-- exactly the vertices that some greatest matching misses
abbrev pub IsOuterSet : Multigraph → List ℕ → Type 0
IsOuterSet g set = (v : ℕ) → (holds set v ≡ true) ↔ IsMissable g v

-- v lies outside the set, and an edge leads from v into it
pub record IsBeside (g : Multigraph) (set : List ℕ) (v : ℕ) : Type 0 where
  pub outside : holds set v ≡ false
  pub edge : ℕ
  pub is_edge : IsEdgeNumber g edge
  pub at_vertex : touches (edge_of g edge) v ≡ true
  pub inside : holds set (other_end (edge_of g edge) v) ≡ true

-- exactly the vertices outside a set with a neighbour in it
abbrev pub IsBorder : Multigraph → List ℕ → List ℕ → Type 0
IsBorder g set border = (v : ℕ) → (holds border v ≡ true) ↔ IsBeside g set v
