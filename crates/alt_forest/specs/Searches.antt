-- A search as the calls see it.
use Rattle.std.specs.Prelude.{◌≡◌, ℕ, ◌+◌, ◌≤◌, ℤ, pos, ◌≤ℤ◌, Bool, true, false, List, length}
use Rattle.std.specs.Prelude.{slice_index_or, Option, None, vec_len}
use Rattle.std.specs.Vec.{vec_capacity}
use Rattle.graph_theory.specs.Limits.{IsWithinLimits}
use Rattle.graph_theory.specs.Graph.{Multigraph, IsGraph, IsWeight, HasNoLoop, edge_of}
use Rattle.graph_theory.specs.Graph.{IsEdgeNumber}
pub use Rattle.blossom_arena.specs.Changes.{label_at}
pub use Rattle.search_tables.specs.Updates.{put}
use Rattle.blossom_arena.specs.Family.{dual_at, IsFamily}
use Rattle.search_heap.specs.Moments.{Moments}
use Rattle.alt_forest.specs.declared.weights.Weights.{Weights}
use Rattle.alt_forest.specs.declared.weights.Weights.TheVariants.{Zero, Given}
use Rattle.alt_forest.specs.declared.search.Search.{Search}
use Rattle.search_tables.specs.declared.incident_edges.IncidentEdge.{IncidentEdge}
use Rattle.search_tables.specs.IncidentEdges.{AreIncidentEdges}
use Rattle.alt_forest.specs.State.{State, IsSearchState}
use Rattle.alt_forest.specs.Trees.{node_limit}

abbrev pub is_given : Weights → Bool
is_given Zero = false
is_given Given = true

abbrev pub edge_in : List (Option ℕ) → ℕ → Option ℕ
edge_in edges a = slice_index_or edges a None

abbrev pub state_of : Search → State
state_of s = record {
  graph = s.graph;
  weighted = is_given s.weights;
  blossoms = s.arena.blossoms;
  dual = dual_at s.arena.duals;
  label = label_at s.labels.items;
  parent = edge_in s.parents.items;
  mate = edge_in s.mates.items;
}

-- a graph within the limits, without loops
pub record IsSearchGraph (g : Multigraph) : Type 0 where
  pub graph : IsGraph g
  pub loopless : HasNoLoop g
  pub limits : IsWithinLimits (record { vertices = g.vertices; edges = length g.edges })

-- the edges by vertex are those of the graph, the queue has a place for each edge and each node,
-- tree ids have one for each node and one before them, and the list of vertices to look from has
-- room for all
pub record HasRoom (g : Multigraph) (incidence : List (List IncidentEdge)) (queue : Moments)
    (tree_ids_len scanned_room : ℕ) : Type 0 where
  pub index : AreIncidentEdges g incidence
  pub edges : length queue.edges ≡ length g.edges
  pub nodes : length queue.blossoms ≡ node_limit g.vertices
  pub tree_ids : tree_ids_len ≡ node_limit g.vertices + 1
  pub scanned : g.vertices ≤ scanned_room

-- the copy is a graph within the limits, the arena is a family on its vertices, each list has a
-- place for each node and one, unused, before them, and the circuit has room for all vertices
pub record HasShape (s : Search) : Type 0 where
  pub graph : IsSearchGraph s.graph
  pub family : IsFamily s.arena
  pub arena : s.arena.vertex_count ≡ s.graph.vertices
  pub labels : vec_len s.labels ≡ node_limit s.graph.vertices + 1
  pub parents : vec_len s.parents ≡ node_limit s.graph.vertices + 1
  pub mates : vec_len s.mates ≡ node_limit s.graph.vertices + 1
  pub circuit : s.graph.vertices ≤ vec_capacity s.circuit
  pub room : HasRoom s.graph s.incidence s.queue (length s.tree_nodes.tree_ids)
      (vec_capacity s.scanned)

-- the search has its shape and is in the state of a search
pub record IsSound (s : Search) : Type 0 where
  pub shape : HasShape s
  pub depth : ℕ → ℕ
  pub state : IsSearchState (state_of s) depth

-- no weight of the pass is below the start, which is 0 if weights aren't used
abbrev pub IsStart : Multigraph → Weights → ℤ → Type 0
IsStart g Zero start = start ≡ pos 0
IsStart g Given start = IsWeight start × ((e : ℕ) → IsEdgeNumber g e → start ≤ℤ (edge_of g e).w)
