-- Undirected multigraphs with integer weights, and what counts on their edges are (Schrijver,
-- Combinatorial Optimization, volume A, chapters 3, 24 and 26).
use Rattle.std.specs.Prelude.{◌≡◌, ℕ, zero, suc, ◌+◌, ◌-◌, ◌*◌, ◌≤◌, ◌<◌, ◌^◌, ℤ, pos, neg_ℤ}
use Rattle.std.specs.Prelude.{◌*ℤ◌, ◌≤ℤ◌, Bool, true, false, ◌||◌, ◌==◌, List, [], ◌∷◌, ◌++◌}
use Rattle.std.specs.Prelude.{length}
use Rattle.std.specs.Prelude.{All, slice_index, slice_index_or, if◌then◌else◌}
use Rattle.graph_theory.specs.Sums.{sum_to, int_sum_to}
use Rattle.graph_theory.specs.declared.edge.Edge.{Edge}
use Rattle.graph_theory.specs.declared.limits.TheConstants.{WEIGHT_LIMIT}

-- Vertices 1 to n, and edges. Parallel edges are edges of their own.
pub record Multigraph : Type 0 where
  pub vertices : ℕ
  pub edges : List Edge

-- both ends are vertices; they may be equal, and the edge is a loop then
pub record IsEdgeWithin (n : ℕ) (e : Edge) : Type 0 where
  pub u_low : 1 ≤ e.u
  pub u_high : e.u ≤ n
  pub v_low : 1 ≤ e.v
  pub v_high : e.v ≤ n

-- the two ends are equal
abbrev pub is_loop : Edge → Bool
is_loop e = e.u == e.v

-- no edge is a loop
abbrev pub HasNoLoop : Multigraph → Type 0
HasNoLoop g = All (λ e. is_loop e ≡ false) g.edges

-- a weight of an edge: no farther from 0 than the limit
abbrev pub IsWeight : ℤ → Type 0
IsWeight w = (neg_ℤ WEIGHT_LIMIT ≤ℤ w) × (w ≤ℤ WEIGHT_LIMIT)

-- numbers of vertices and of edges that fit 32 bits, ends that are vertices, and weights in range
pub record IsGraph (g : Multigraph) : Type 0 where
  pub few_vertices : g.vertices < 2 ^ 32
  pub few_edges : length g.edges < 2 ^ 32
  pub ends : All (IsEdgeWithin g.vertices) g.edges
  pub weights : All (λ e. IsWeight e.w) g.edges

abbrev pub no_edge : Edge
no_edge = record { u = 0; v = 0; w = pos 0 }

-- the edge at a place, from 0: sums run over places
abbrev pub edge_at : Multigraph → ℕ → Edge
edge_at g k = slice_index_or g.edges k no_edge

-- the edge of a number, from 1: documents and calls use numbers
abbrev pub edge_of : Multigraph → ℕ → Edge
edge_of g e = edge_at g (e - 1)

-- e is the number of an edge
abbrev pub IsEdgeNumber : Multigraph → ℕ → Type 0
IsEdgeNumber g e = (1 ≤ e) × (e ≤ length g.edges)

-- v is an end of e
abbrev pub touches : Edge → ℕ → Bool
touches e v = (e.u == v) || (e.v == v)

-- the end of e that is not v, where v is an end
abbrev pub other_end : Edge → ℕ → ℕ
other_end e v = if e.u == v then e.v else e.u

-- how many of the two ends of e are v
abbrev pub ends_at : Edge → ℕ → ℕ
ends_at e v = (if e.u == v then 1 else 0) + (if e.v == v then 1 else 0)

-- the numbers of the edges at v among the first k, ascending
abbrev pub edges_below : Multigraph → ℕ → ℕ → List ℕ
edges_below g v zero = []
edges_below g v (suc k) = if touches (edge_at g k) v then edges_below g v k ++ suc k ∷ []
    else edges_below g v k

-- the numbers of the edges at v, ascending
abbrev pub edges_around : Multigraph → ℕ → List ℕ
edges_around g v = edges_below g v (length g.edges)

-- the degree of v: each edge as often as it is counted, and for each of its ends that is v
abbrev pub degree : Multigraph → List ℕ → ℕ → ℕ
degree g counts v = sum_to (λ k. slice_index counts k * ends_at (edge_at g k) v) (length g.edges)

-- no edge at v is counted
abbrev pub CountsNoneAt : Multigraph → List ℕ → ℕ → Type 0
CountsNoneAt g counts v = (k : ℕ) → k < length g.edges → touches (edge_at g k) v ≡ true
    → slice_index counts k ≡ 0

-- the weights of the edges, each as often as it is counted, added up
abbrev pub weight : Multigraph → List ℕ → ℤ
weight g counts = int_sum_to (λ k. pos (slice_index counts k) *ℤ (edge_at g k).w) (length g.edges)

-- a perfect matching (chapter 24): counts 0 or 1, one for each edge, such that each vertex has
-- degree 1
pub record IsPerfect (g : Multigraph) (counts : List ℕ) : Type 0 where
  pub one_each : length counts ≡ length g.edges
  pub at_most_one : All (λ c. c ≤ 1) counts
  pub degrees : (v : ℕ) → 1 ≤ v → v ≤ g.vertices → degree g counts v ≡ 1
