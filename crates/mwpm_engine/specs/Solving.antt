-- What an engine keeps of a finished search (chapters 24 and 26): the matching of its vertices, and
-- of its duals those of the vertices and of the blossoms that count.
use Rattle.std.specs.Prelude.{◌≡◌, ℕ, ℤ, pos, ◌*ℤ◌, true, List, map, Option}
use Rattle.std.specs.Prelude.{Some, None}
use Rattle.std.specs.List.{filter, range_with_len, AllByRecursion}
use Rattle.graph_theory.specs.Graph.{IsEdgeNumber, IsPerfect, edge_of}
use Rattle.graph_theory.specs.Duals.{DualSet}
use Rattle.blossom_arena.specs.Family.{Blossom, is_node, is_vertex, dual_at, members_of}
use Rattle.blossom_arena.specs.Family.{outermost}
use Rattle.blossom_arena.specs.declared.label.Label.{Label}
use Rattle.blossom_arena.specs.declared.label.Label.TheVariants.{Outer}
use Rattle.blossom_arena.specs.Slack.{vertex_duals}
use Rattle.alt_forest.specs.declared.search.Search.{Search}
use Rattle.alt_forest.specs.State.{State, doubled, IsTight}
use Rattle.alt_forest.specs.Trees.{is_label}
use Rattle.alt_forest.specs.Searches.{IsSound, state_of, edge_in, is_given}
use Rattle.dual_change.specs.Laws.{inner_vertices}
use Rattle.augment.specs.Matching.{IsVertexMate, mate_counts, leaving}
use Rattle.mwpm_engine.specs.declared.outcome.Outcome.{Outcome}
use Rattle.mwpm_engine.specs.Solutions.{Solution, IsWithinBound}

-- the number of an edge, or 0
abbrev pub number_or_none : Option ℕ → ℕ
number_or_none None = 0
number_or_none (Some e) = e

-- the edges at the vertices 1 to n
abbrev pub mate_numbers : (ℕ → Option ℕ) → ℕ → List ℕ
mate_numbers mate n = map (λ v. number_or_none (mate v)) (range_with_len 1 n)

-- these nodes as sets: the dual and the vertices of each
abbrev pub sets_at : List ℤ → List Blossom → List ℕ → List DualSet
sets_at ys bs nodes = map (λ a. record { dual = dual_at ys a; members = members_of bs a }) nodes

-- the vertices of nodes with this label, ascending
abbrev pub labelled_vertices : State → Label → List ℕ
labelled_vertices s l = filter (λ v. is_label (s.label (outermost s.blossoms v)) l)
    (range_with_len 1 s.graph.vertices)

abbrev pub outer_vertices : State → List ℕ
outer_vertices s = labelled_vertices s Outer

-- what an engine keeps of a search, where these nodes are the blossoms that it lists
abbrev pub solution_of : Search → Option Outcome → List ℕ → Solution
solution_of s outcome nodes = record {
  graph = s.graph;
  outcome = outcome;
  mates = mate_numbers (edge_in s.mates.items) s.graph.vertices;
  duals = vertex_duals s.graph.vertices s.arena.duals;
  sets = sets_at s.arena.duals s.arena.blossoms nodes;
  barrier = inner_vertices (state_of s);
  outer = outer_vertices (state_of s);
}

-- a slack counts twice the weight of its edge: weights are used, or all are 0
abbrev pub CountsWeights : Search → Type 0
CountsWeights s = (e : ℕ) → IsEdgeNumber s.graph e
    → doubled s.graph (is_given s.weights) e ≡ pos 2 *ℤ (edge_of s.graph e).w

-- the dual of each node lies within its bound
abbrev pub HasBoundedDuals : Search → Type 0
HasBoundedDuals s = (a : ℕ) → is_node s.graph.vertices s.arena.blossoms a ≡ true
    → IsWithinBound s.graph.vertices (dual_at s.arena.duals a)

-- each node has the dual 0
abbrev pub HasZeroDuals : Search → Type 0
HasZeroDuals s = (a : ℕ) → is_node s.graph.vertices s.arena.blossoms a ≡ true
    → dual_at s.arena.duals a ≡ pos 0

-- All blossoms have been opened: the mates of the vertices are a perfect matching of tight edges,
-- one of which leaves each blossom.
pub record IsUnpacked (s : Search) : Type 0 where
  pub sound : IsSound s
  pub mates : (v : ℕ) → is_vertex s.graph.vertices v ≡ true
      → IsVertexMate s.graph (edge_in s.mates.items) v
  pub perfect : IsPerfect s.graph (mate_counts s.graph (edge_in s.mates.items))
  pub tight : (v e : ℕ) → is_vertex s.graph.vertices v ≡ true → edge_in s.mates.items v ≡ Some e
      → IsTight (state_of s) e
  pub leaves : AllByRecursion
      (λ (b : Blossom). leaving s.graph (mate_counts s.graph (edge_in s.mates.items)) b.members ≡ 1)
      s.arena.blossoms
