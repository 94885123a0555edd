-- Counts of edges that are used up one by one, and how far the edges at each vertex are.
use Rattle.std.specs.Prelude.{◌≡◌, ℕ, ◌+◌, ◌-◌, ◌==◌, ◌≤◌, ◌<◌, true, List, length, slice_index}
use Rattle.std.specs.Prelude.{if◌then◌else◌}
use Rattle.graph_theory.specs.Graph.{Multigraph, IsEdgeNumber, edge_of, edges_around, touches}

-- none of the first n of these edges is left
abbrev pub NoneLeft : List ℕ → List ℕ → ℕ → Type 0
NoneLeft left numbers n = (j : ℕ) → j < n → slice_index left (slice_index numbers j - 1) ≡ 0

-- at each vertex no edge before its cursor is left
pub record ArePassed (g : Multigraph) (left cursors : List ℕ) : Type 0 where
  pub size : length cursors ≡ g.vertices + 1
  pub within : (v : ℕ) → v ≤ g.vertices → slice_index cursors v ≤ length (edges_around g v)
  pub none : (v : ℕ) → v ≤ g.vertices → NoneLeft left (edges_around g v) (slice_index cursors v)

-- the edge is counted once less
abbrev pub IsTaken : ℕ → List ℕ → List ℕ → Type 0
IsTaken e old new = (k : ℕ) → slice_index new k + (if e == k + 1 then 1 else 0) ≡ slice_index old k

-- edge e at v is counted once less
pub record TakesOne (g : Multigraph) (old new : List ℕ) (v e : ℕ) : Type 0 where
  pub number : IsEdgeNumber g e
  pub meets : touches (edge_of g e) v ≡ true
  pub size : length new ≡ length old
  pub taken : IsTaken e old new
