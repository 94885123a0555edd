-- How large a graph is, and which graphs are searched and certified.
use Rattle.std.specs.Prelude.{◌≡◌, ℕ, ◌≤◌, length}
use Rattle.graph_theory.specs.declared.limits.TheConstants.{GRAPH_VERTEX_LIMIT, GRAPH_EDGE_LIMIT}
use Rattle.graph_theory.specs.Graph.{Multigraph}

-- so many vertices and edges
pub record Size : Type 0 where
  pub vertices : ℕ
  pub edges : ℕ

-- within the limits: a graph of this size may be searched and certified
pub record IsWithinLimits (s : Size) : Type 0 where
  pub vertices : s.vertices ≤ GRAPH_VERTEX_LIMIT
  pub edges : s.edges ≤ GRAPH_EDGE_LIMIT

-- the graph has the vertices and edges that the size counts
pub record HasSize (s : Size) (g : Multigraph) : Type 0 where
  pub vertices : g.vertices ≡ s.vertices
  pub edges : length g.edges ≡ s.edges
