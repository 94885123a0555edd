-- The certificate graphs: each feasible answer of an instance is a perfect matching there
-- (Schrijver, Combinatorial Optimization, volume A, chapter 26 for matchings, 29 for joins, 31 for
-- b-matchings, 32 for capacities, 33 for factors, 35 for degrees between two bounds).
use Rattle.std.specs.Prelude.{ℕ, ◌+◌, ◌-◌, ◌*◌, pos, neg_ℤ, List, [], ◌∷◌, ◌++◌, length}
use Rattle.std.specs.Prelude.{slice_index, map, Bool, ◌&&◌, if◌then◌else◌}
use Rattle.graph_theory.specs.declared.edge.Edge.{Edge}
use Rattle.graph_theory.specs.Sums.{sum_to}
use Rattle.graph_theory.specs.Graph.{Multigraph, ends_at}
use Rattle.gallai_theory.specs.Decomposition.{unweighted}
use Rattle.mb_problem.specs.declared.answer.Parity.TheVariants.{Values}
use Rattle.mb_problem.specs.declared.gadget.GadgetForm.{GadgetForm}
use Rattle.mb_problem.specs.declared.gadget.GadgetForm.TheVariants.{Itself, Doubled, Copies, Capped}
use Rattle.mb_problem.specs.declared.gadget.GadgetForm.TheVariants.{Ports, PathPorts, Halves, Sides}
use Rattle.mb_problem.specs.declared.gadget.GadgetForm.TheVariants.{Unweighted}
use Rattle.mb_problem.specs.Network.{Network, vertices, plain, instance_edge_at, low_of, at_most}
use Rattle.mb_problem.specs.Network.{plain_graph}
use Rattle.mb_problem.specs.Size.{value_total, value_u, value_v, port_count, is_loop_at}
use Rattle.mb_problem.specs.Size.{room_of, spare_copies, standing, joins}
use Rattle.mb_problem.specs.Size.{room_by, odd_at, in_first, in_second}
use Rattle.gadget_base.specs.Blocks.{blocks, tabled, rectangle, clique}

-- two copies of edge number k + 1 with its weight turned round, if it isn't a loop: between its
-- ends, and between the copies of these
abbrev pub two_copies : Network → ℕ → List Edge
two_copies i k = if is_loop_at i k then [] else
    record {
      u = (instance_edge_at i k).u;
      v = (instance_edge_at i k).v;
      w = neg_ℤ (instance_edge_at i k).w;
    }
    ∷ record {
      u = (instance_edge_at i k).u + vertices i;
      v = (instance_edge_at i k).v + vertices i;
      w = neg_ℤ (instance_edge_at i k).w;
    }
    ∷ []

-- vertex k + 1 joined to its copy at weight 0
abbrev pub to_copy : Network → ℕ → Edge
to_copy i k = record { u = k + 1; v = k + 1 + vertices i; w = pos 0 }

-- the graph twice, and each vertex joined to its copy
abbrev pub doubled_graph : Network → Multigraph
doubled_graph i = record {
  vertices = 2 * vertices i;
  edges = blocks (two_copies i) (length i.edges) ++ tabled (to_copy i) (vertices i);
}

-- the values of the vertices below t, added up: the copies of t come after so many vertices
abbrev pub values_below : Network → ℕ → ℕ
values_below i t = sum_to (λ k. slice_index i.values k) (t - 1)

-- each copy of the one end of edge number k + 1 joined to each copy of the other; of a loop, any
-- two copies of its end joined
abbrev pub pairs_of_copies : Network → ℕ → List Edge
pairs_of_copies i k = if is_loop_at i k
    then clique (values_below i (instance_edge_at i k).u) (value_u i k) (instance_edge_at i k).w
    else rectangle (values_below i (instance_edge_at i k).u) (value_u i k)
    (values_below i (instance_edge_at i k).v) (value_v i k) (instance_edge_at i k).w

-- each vertex as often as its value says, and all pairs of copies of the ends of each edge
abbrev pub copies_graph : Network → Multigraph
copies_graph i = record {
  vertices = value_total i;
  edges = blocks (pairs_of_copies i) (length i.edges);
}

-- how many vertices stand before the gates of edge number k + 1
abbrev pub before_gates : Network → (ℕ → ℕ) → ℕ → ℕ
before_gates i room k = value_total i + 2 * sum_to room k

-- the edges that stand for edge number k + 1: from the copies of its first end to the vertices of
-- its first gate, from there to those of its second gate, and from there to the copies of its
-- second end
abbrev pub gated : Network → (ℕ → ℕ) → ℕ → List Edge
gated i room k =
    rectangle (values_below i (instance_edge_at i k).u) (value_u i k) (before_gates i room k)
    (room k) (instance_edge_at i k).w
    ++ (rectangle (before_gates i room k) (room k) (before_gates i room k + room k) (room k) (pos 0)
    ++ rectangle (before_gates i room k + room k) (room k) (values_below i (instance_edge_at i k).v)
    (value_v i k) (pos 0))

-- copies of the vertices, and for each edge two gates of as many vertices as the edge has room
abbrev pub capped_graph : Network → (ℕ → ℕ) → Multigraph
capped_graph i room = record {
  vertices = before_gates i room (length i.edges);
  edges = blocks (gated i room) (length i.edges);
}

-- the edge, and the edges, with ends `by` vertices further on
abbrev pub moved_edge : ℕ → Edge → Edge
moved_edge by e = record { u = e.u + by; v = e.v + by; w = e.w }

abbrev pub moved : ℕ → List Edge → List Edge
moved by es = map (moved_edge by) es

-- the graph of gates for the greatest degrees
abbrev pub half_graph : Network → Multigraph
half_graph i = capped_graph (at_most i) (room_of (at_most i))

-- the copy of vertex k + 1 that comes `a` after those of its least degree, joined to its twin
abbrev pub spare_pair : Network → ℕ → ℕ → ℕ → Edge
spare_pair i by k a = record {
  u = values_below (at_most i) (k + 1) + (low_of i (k + 1) + a) + 1;
  v = values_below (at_most i) (k + 1) + (low_of i (k + 1) + a) + 1 + by;
  w = pos 0;
}

-- the graph of gates for the greatest degrees twice, and each copy that may stay free joined to its
-- twin
abbrev pub halves_graph : Network → Multigraph
halves_graph i = let half = half_graph i in record {
  vertices = 2 * half.vertices;
  edges = half.edges ++ (moved half.vertices half.edges
      ++ blocks (λ k. tabled (spare_pair i half.vertices k) (spare_copies i k)) (vertices i));
}

-- the number of vertex v among those that stand there, which come after `before` others
abbrev pub place_in : (ℕ → Bool) → ℕ → ℕ → ℕ
place_in there before v = before + standing there (v - 1) + 1

-- the copy of edge number k + 1, if it isn't a loop and both of its ends stand there
abbrev pub side_edge : (ℕ → Bool) → ℕ → Network → ℕ → List Edge
side_edge there before i k =
    if joins there i k then record {
      u = place_in there before (instance_edge_at i k).u;
      v = place_in there before (instance_edge_at i k).v;
      w = (instance_edge_at i k).w;
    } ∷ [] else []

-- vertex k + 1 joined to its other copy at weight 0, if it stands in both
abbrev pub between_sides : (ℕ → Bool) → (ℕ → Bool) → ℕ → ℕ → List Edge
between_sides one two before k =
    if one (k + 1) && two (k + 1) then record {
      u = place_in one 0 (k + 1);
      v = place_in two before (k + 1);
      w = pos 0;
    } ∷ [] else []

-- two copies of the graph without its loops, each with the vertices that stand there, and those
-- that stand in both joined to their other copies
abbrev pub sides_graph : (ℕ → Bool) → (ℕ → Bool) → Network → Multigraph
sides_graph one two i = let before = standing one (vertices i) in record {
  vertices = before + standing two (vertices i);
  edges = blocks (λ k. side_edge one 0 i k ++ side_edge two before i k) (length i.edges)
      ++ blocks (between_sides one two before) (vertices i);
}

-- the ports and spares of the vertices below t
abbrev pub ports_below : Network → (ℕ → ℕ) → ℕ → ℕ
ports_below i odd t = sum_to (λ k. port_count i odd (k + 1)) (t - 1)

-- how many of the first k edges meet vertex t
abbrev pub met_below : Network → ℕ → ℕ → ℕ
met_below i t k = sum_to (λ j. ends_at (plain (instance_edge_at i j)) t) k

-- the port at its end t of edge number k + 1
abbrev pub port_of : Network → (ℕ → ℕ) → ℕ → ℕ → ℕ
port_of i odd k t = ports_below i odd t + met_below i t k + 1

-- edge number k + 1 between its two ports; those of a loop stand side by side
abbrev pub between_ports : Network → (ℕ → ℕ) → ℕ → Edge
between_ports i odd k = record {
  u = port_of i odd k (instance_edge_at i k).u;
  v = port_of i odd k (instance_edge_at i k).v + (if is_loop_at i k then 1 else 0);
  w = (instance_edge_at i k).w;
}

-- for each vertex a port for each edge at it, and a spare where the number of these and `odd`
-- differ in parity; each edge between its ports, and those of a vertex all joined
abbrev pub ports_graph : Network → (ℕ → ℕ) → Multigraph
ports_graph i odd = record {
  vertices = ports_below i odd (vertices i + 1);
  edges = tabled (between_ports i odd) (length i.edges) ++ blocks
      (λ k. clique (ports_below i odd (k + 1)) (port_count i odd (k + 1)) (pos 0)) (vertices i);
}

-- the graph that is built so; a path's duals are those of the graph for joins that are odd at its
-- two ends
abbrev pub graph_by : GadgetForm → Network → Multigraph
graph_by Itself i = plain_graph i
graph_by Doubled i = doubled_graph i
graph_by Copies i = copies_graph i
graph_by (Capped capacities) i = capped_graph i (room_by capacities i)
graph_by (Ports parity) i = ports_graph i (odd_at parity i)
graph_by PathPorts i = ports_graph i (odd_at Values i)
graph_by Halves i = halves_graph i
graph_by (Sides odd) i = sides_graph (in_first odd i) (in_second odd i) i
graph_by Unweighted i = unweighted (plain_graph i)
