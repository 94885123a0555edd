-- The weights of a graph's edges: whether there is but one, and which is the least.
use Rattle.std.specs.Prelude.{◌≡◌, ◌≢◌, ◌⊎◌, ℕ, ℤ, ◌<◌, length}
use Rattle.graph_theory.specs.Graph.{Multigraph, IsEdgeNumber, edge_at, edge_of}

-- each edge has this weight
abbrev pub AllWeigh : Multigraph → ℤ → Type 0
AllWeigh g w = (e : ℕ) → IsEdgeNumber g e → (edge_of g e).w ≡ w

-- two edges have different weights
abbrev pub HasTwoWeights : Multigraph → Type 0
HasTwoWeights g = (e : ℕ) × (f : ℕ) × IsEdgeNumber g e × IsEdgeNumber g f
    × ((edge_of g e).w ≢ (edge_of g f).w)

-- some edge has this weight, or there is no edge
abbrev pub IsWeightOfSome : Multigraph → ℤ → Type 0
IsWeightOfSome g w = (length g.edges ≡ 0) ⊎ ((e : ℕ) × IsEdgeNumber g e × ((edge_of g e).w ≡ w))

-- at place k stands the first edge that weighs something else than the edge at place 0
pub record IsFirstOther (g : Multigraph) (k : ℕ) : Type 0 where
  pub place : k < length g.edges
  pub other : (edge_at g k).w ≢ (edge_at g 0).w
  pub alike : (j : ℕ) → j < k → (edge_at g j).w ≡ (edge_at g 0).w
