-- What an instance is: a graph whose edges may have capacities and whose vertices have values.
use Rattle.std.specs.Prelude.{◌≡◌, ℕ, ◌-◌, ◌≤◌, pos, List, length, map, All, slice_index}
use Rattle.std.specs.Prelude.{slice_index_or}
use Rattle.std.specs.Prelude.{None, IfSome, not}
use Rattle.std.specs.List.{filter}
use Rattle.graph_theory.specs.declared.edge.Edge.{Edge}
use Rattle.graph_theory.specs.Graph.{Multigraph, IsEdgeWithin, IsWeight, is_loop}
use Rattle.mb_problem.specs.declared.instance.InstanceEdge.{InstanceEdge}
use Rattle.mb_problem.specs.declared.limits.TheConstants.{VERTEX_LIMIT, EDGE_LIMIT, VALUE_LIMIT}

-- edges, and for each of the vertices 1 to n a value, and the least and the greatest degree that an
-- answer may have there
pub record Network : Type 0 where
  pub edges : List InstanceEdge
  pub values : List ℕ
  pub lows : List ℕ
  pub highs : List ℕ

abbrev pub vertices : Network → ℕ
vertices i = length i.values

-- the edge without its capacity
abbrev pub plain : InstanceEdge → Edge
plain e = record { u = e.u; v = e.v; w = e.w }

-- the graph of an instance
abbrev pub graph_of : Network → Multigraph
graph_of i = record { vertices = vertices i; edges = map plain i.edges }

-- the graph of an instance without its loops
abbrev pub plain_graph : Network → Multigraph
plain_graph i = record {
  vertices = vertices i;
  edges = filter (λ e. not (is_loop e)) (map plain i.edges);
}

abbrev pub no_instance_edge : InstanceEdge
no_instance_edge = record { u = 0; v = 0; w = pos 0; capacity = None }

-- the edge at a place, from 0
abbrev pub instance_edge_at : Network → ℕ → InstanceEdge
instance_edge_at i k = slice_index_or i.edges k no_instance_edge

-- the edge of a number, from 1
abbrev pub instance_edge_of : Network → ℕ → InstanceEdge
instance_edge_of i e = instance_edge_at i (e - 1)

-- the value of vertex v
abbrev pub value_of : Network → ℕ → ℕ
value_of i v = slice_index i.values (v - 1)

-- the least and the greatest degree that an answer may have at vertex v
abbrev pub low_of : Network → ℕ → ℕ
low_of i v = slice_index i.lows (v - 1)

abbrev pub high_of : Network → ℕ → ℕ
high_of i v = slice_index i.highs (v - 1)

-- the instance whose values are the greatest degrees
abbrev pub at_most : Network → Network
at_most i = record i { values = i.highs }

-- ends among the vertices, which may be equal, a weight in range, and a capacity within the limit
-- if there is one
pub record IsInstanceEdge (n : ℕ) (e : InstanceEdge) : Type 0 where
  pub ends : IsEdgeWithin n (plain e)
  pub weight : IsWeight e.w
  pub capacity : IfSome e.capacity (λ c. c ≤ VALUE_LIMIT)

-- the ranges that every instance keeps
pub record IsNetwork (i : Network) : Type 0 where
  pub few_vertices : vertices i ≤ VERTEX_LIMIT
  pub few_edges : length i.edges ≤ EDGE_LIMIT
  pub edges : All (IsInstanceEdge (vertices i)) i.edges
  pub values : All (λ b. b ≤ VALUE_LIMIT) i.values
  pub low_each : length i.lows ≡ vertices i
  pub high_each : length i.highs ≡ vertices i
  pub ordered : (k : ℕ) → slice_index i.lows k ≤ slice_index i.highs k
  pub highs : All (λ b. b ≤ VALUE_LIMIT) i.highs
