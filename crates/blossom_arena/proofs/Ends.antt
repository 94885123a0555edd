-- The ends of an edge are vertices.
use Rattle.graph_theory.proofs.Common.{◌≡◌, ℕ, true, All, Multigraph, IsEdgeWithin, IsEdgeNumber, edge_of, edge_of_within}
use Rattle.blossom_arena.specs.Family.{is_vertex}
use Rattle.blossom_arena.proofs.Nested.{range_vertex}

pub u_vertex : (g : Multigraph) (e : ℕ) → All (IsEdgeWithin g.vertices) g.edges → IsEdgeNumber g e → is_vertex g.vertices (edge_of g e).u ≡ true
u_vertex g e ends is = let w = edge_of_within g e ends is in range_vertex g.vertices (edge_of g e).u w.u_low w.u_high

pub v_vertex : (g : Multigraph) (e : ℕ) → All (IsEdgeWithin g.vertices) g.edges → IsEdgeNumber g e → is_vertex g.vertices (edge_of g e).v ≡ true
v_vertex g e ends is = let w = edge_of_within g e ends is in range_vertex g.vertices (edge_of g e).v w.v_low w.v_high
