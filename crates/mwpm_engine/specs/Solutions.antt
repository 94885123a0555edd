-- What an engine keeps after a run: a perfect matching with the duals that prove it least, or a
-- barrier (Schrijver, Combinatorial Optimization, volume A, chapters 24 to 26).
use Rattle.std.specs.Prelude.{◌≡◌, ◌≢◌, ◌↔◌, ℕ, ◌+◌, ◌-◌, ◌*◌, ◌%◌, ◌≤◌, ℤ, pos, neg_ℤ, ◌*ℤ◌, ◌≤ℤ◌}
use Rattle.std.specs.Prelude.{◌==◌, true, List, [], ◌∷◌, length, map, All, slice_index_or}
use Rattle.std.specs.Prelude.{if◌then◌else◌, Option, None, Some}
use Rattle.std.specs.List.{range_with_len}
use Rattle.graph_theory.specs.Graph.{Multigraph, IsEdgeNumber, edge_of, touches, other_end}
use Rattle.graph_theory.specs.Graph.{degree, IsPerfect, weight}
use Rattle.graph_theory.specs.Limits.{Size}
use Rattle.graph_theory.specs.Barrier.{IsBarrier, IsComponent}
use Rattle.graph_theory.specs.Parts.{holds, IsVertexSet}
use Rattle.gallai_theory.specs.Matchings.{edges_used, IsMatched}
use Rattle.gallai_theory.specs.Decomposition.{IsDecomposed}
use Rattle.graph_theory.specs.Duals.{DualSet, AreDuals, dual_value, IsNumber}
pub use Rattle.graph_theory.specs.Nested.{AreNested, AreAscending}
use Rattle.graph_theory.specs.Nested.{most_blossoms}
use Rattle.graph_theory.specs.declared.limits.TheConstants.{WEIGHT_LIMIT}
pub use Rattle.search_start.specs.Bounds.{HasPerfect}
pub use Rattle.search_start.specs.Weights.{AllWeigh}
use Rattle.mwpm_engine.specs.declared.outcome.Outcome.{Outcome}
use Rattle.mwpm_engine.specs.declared.outcome.Outcome.TheVariants.{Matched, Barrier}

-- An engine as contracts see it: the graph that it was made for, its outcome once it has run, the
-- number of the edge at each vertex and the vertices' duals in the order of the vertices, the sets
-- of dual at least 1 with their members in any order, the vertices of a barrier, ascending, and
-- those of outer nodes beside it.
pub record Solution : Type 0 where
  pub graph : Multigraph
  pub outcome : Option Outcome
  pub mates : List ℕ
  pub duals : List ℤ
  pub sets : List DualSet
  pub barrier : List ℕ
  pub outer : List ℕ

-- the edge at vertex v
abbrev pub mate_at : List ℕ → ℕ → ℕ
mate_at mates v = slice_index_or mates (v - 1) 0

-- the same, and none if there is no edge
abbrev pub found_mate : List ℕ → ℕ → Option ℕ
found_mate mates v = if mate_at mates v == 0 then None else Some (mate_at mates v)

-- how often each edge is used: once where it is the edge at its first end, else not at all
abbrev pub matching_of : Multigraph → List ℕ → List ℕ
matching_of g mates = map (λ e. if mate_at mates (edge_of g e).u == e then 1 else 0)
    (range_with_len 1 (length g.edges))

-- the edge that stands for a vertex: an edge of the graph, at this vertex, which stands for its
-- other end too
pub record IsMate (g : Multigraph) (mates : List ℕ) (v : ℕ) : Type 0 where
  pub is_edge : IsEdgeNumber g (mate_at mates v)
  pub at_vertex : touches (edge_of g (mate_at mates v)) v ≡ true
  pub at_other_end : mate_at mates (other_end (edge_of g (mate_at mates v)) v) ≡ mate_at mates v

-- with n vertices: no farther from 0 than 2n + 1 times the greatest weight
abbrev pub IsWithinBound : ℕ → ℤ → Type 0
IsWithinBound n y = (neg_ℤ (pos (2 * n + 1) *ℤ WEIGHT_LIMIT) ≤ℤ y)
    × (y ≤ℤ (pos (2 * n + 1) *ℤ WEIGHT_LIMIT))

-- how many members sets have in all
abbrev pub member_count : List DualSet → ℕ
member_count [] = 0
member_count (t ∷ rest) = length t.members + member_count rest

-- A perfect matching, and duals that prove it least: they are feasible, and their value is twice
-- its weight.
pub record IsSolved (s : Solution) : Type 0 where
  pub one_each : length s.mates ≡ s.graph.vertices
  pub each_mate : (v : ℕ) → 1 ≤ v → v ≤ s.graph.vertices → IsMate s.graph s.mates v
  pub perfect : IsPerfect s.graph (matching_of s.graph s.mates)
  pub duals : (sets : List DualSet) → AreAscending s.sets sets → AreDuals s.graph s.duals sets
  pub value : (sets : List DualSet) → AreAscending s.sets sets
      → dual_value s.duals sets ≡ pos 2 *ℤ weight s.graph (matching_of s.graph s.mates)
  pub nested : AreNested s.sets
  pub size_limit : length s.sets ≤ most_blossoms s.graph.vertices
  pub few_members : 4 * member_count s.sets ≤ s.graph.vertices * s.graph.vertices
      + 3 * s.graph.vertices
  pub in_range : All IsNumber s.duals
  pub sets_in_range : All (λ (t : DualSet). IsNumber t.dual) s.sets
  pub bounded : All (IsWithinBound s.graph.vertices) s.duals
  pub sets_bounded : All (λ (t : DualSet). IsWithinBound s.graph.vertices t.dual) s.sets

-- v lies in a component of odd size that is left without a set
abbrev pub IsInOdd : Multigraph → List ℕ → ℕ → Type 0
IsInOdd g removed v = (component : List ℕ) × IsComponent g removed component
    × (length component % 2 ≡ 1) × (holds component v ≡ true)

-- A matching that misses some vertices, whatever the weights, and the outer vertices of the forest
-- that is stuck: their neighbours outside are the barrier, and without these as many components
-- have odd size as they and the missed vertices are together, which hold exactly the outer vertices
-- (Gallai, Edmonds; chapter 24).
pub record IsDecomposedBy (s : Solution) : Type 0 where
  pub one_each : length s.mates ≡ s.graph.vertices
  pub each_mate : (v : ℕ) → 1 ≤ v → v ≤ s.graph.vertices → mate_at s.mates v ≢ 0
      → IsMate s.graph s.mates v
  pub matched : IsMatched s.graph (matching_of s.graph s.mates)
  pub missed : (v : ℕ) → 1 ≤ v → v ≤ s.graph.vertices
      → (mate_at s.mates v ≡ 0) ↔ (degree s.graph (matching_of s.graph s.mates) v ≡ 0)
  pub outer_set : IsVertexSet s.graph.vertices s.outer
  pub decomposed : IsDecomposed s.graph (edges_used s.graph (matching_of s.graph s.mates))
      s.outer s.barrier
  pub odd : (v : ℕ) → holds s.outer v ≡ true → IsInOdd s.graph s.barrier v

-- a barrier, and what stands beside it
pub record IsBarred (s : Solution) : Type 0 where
  pub vertex_set : IsVertexSet s.graph.vertices s.barrier
  pub excludes : IsBarrier s.graph s.barrier
  pub beside : IsDecomposedBy s

-- what a run leaves, by its outcome
abbrev pub Ends : Solution → Outcome → Type 0
Ends s Matched = IsSolved s
Ends s Barrier = IsBarred s

-- how many vertices and edges a graph has
abbrev pub size_of_graph : Multigraph → Size
size_of_graph g = record { vertices = g.vertices; edges = length g.edges }

-- how many steps a run on a graph of this size counts at most
abbrev pub most_steps : Size → ℕ
most_steps size = (size.vertices + 1) * (3 * size.vertices + 2) * (size.edges + 1)

-- another bound on that number, the lower one for all but the least graphs
abbrev pub close_steps : Size → ℕ
close_steps size = 2 * size.edges * (size.vertices + 1) * (size.vertices + 1)
    + (size.vertices + 1) * (3 * size.vertices + 2)
