-- The size of the certificate graph, its vertices and edges.
use Rattle.std.specs.Prelude.{ℕ, ◌+◌, ◌-◌, ◌*◌, ◌/◌, ◌%◌, min, max, length, Option, None, Some}
use Rattle.std.specs.Prelude.{slice_index, replicate, Bool, true, false, not, ◌&&◌, ◌==◌}
use Rattle.std.specs.Prelude.{if◌then◌else◌}
use Rattle.graph_theory.specs.Sums.{sum_to}
use Rattle.graph_theory.specs.Graph.{degree, is_loop}
use Rattle.graph_theory.specs.Limits.{Size}
use Rattle.mb_problem.specs.declared.kind.Kind.{Kind}
use Rattle.mb_problem.specs.declared.kind.EdgeUse.{EdgeUse}
use Rattle.mb_problem.specs.declared.kind.EdgeUse.TheVariants as use_of
use Rattle.mb_problem.specs.declared.answer.Parity.{Parity}
use Rattle.mb_problem.specs.declared.answer.Parity.TheVariants.{Empty, Values, OddDegrees}
use Rattle.mb_problem.specs.declared.gadget.Capacities.{Capacities}
use Rattle.mb_problem.specs.declared.gadget.Capacities.TheVariants.{Own, Unit as Once}
use Rattle.mb_problem.specs.declared.gadget.GadgetForm.{GadgetForm}
use Rattle.mb_problem.specs.declared.gadget.GadgetForm.TheVariants.{Itself, Doubled, Copies, Capped}
use Rattle.mb_problem.specs.declared.gadget.GadgetForm.TheVariants.{Ports, PathPorts, Halves, Sides}
use Rattle.mb_problem.specs.declared.gadget.GadgetForm.TheVariants.{Unweighted}
use Rattle.mb_problem.specs.declared.instance.InstanceEdge.{InstanceEdge}
use Rattle.mb_problem.specs.Network.{Network, vertices, graph_of, plain, instance_edge_at, value_of}
use Rattle.mb_problem.specs.Network.{low_of, high_of, at_most}
use Rattle.mb_problem.specs.Kinds.{gadget_of}

abbrev pub value_total : Network → ℕ
value_total i = sum_to (λ k. slice_index i.values k) (vertices i)

-- the values at the two ends of the edge at a place
abbrev pub value_u : Network → ℕ → ℕ
value_u i k = value_of i (instance_edge_at i k).u

abbrev pub value_v : Network → ℕ → ℕ
value_v i k = value_of i (instance_edge_at i k).v

-- the edge at a place has two equal ends
abbrev pub is_loop_at : Network → ℕ → Bool
is_loop_at i k = is_loop (plain (instance_edge_at i k))

-- how many edges are no loops
abbrev pub link_count : Network → ℕ
link_count i = sum_to (λ k. if is_loop_at i k then 0 else 1) (length i.edges)

-- how many pairs the copies of the ends of the edge at a place have: of a loop, those of two
-- different copies of its end
abbrev pub copy_pairs : Network → ℕ → ℕ
copy_pairs i k = if is_loop_at i k then value_u i k * (value_u i k - 1) / 2
    else value_u i k * value_v i k

-- how often an edge can be used: at most the values at its ends, and its capacity where it has one
abbrev pub bounded : Option ℕ → ℕ → ℕ
bounded None most = most
bounded (Some c) most = min c most

-- how often an edge can be used, whatever the values at its ends
abbrev pub limit_by : Capacities → InstanceEdge → Option ℕ
limit_by Own e = e.capacity
limit_by Once e = Some 1

-- how often the edge at a place can be used
abbrev pub room_by : Capacities → Network → ℕ → ℕ
room_by capacities i k = bounded (limit_by capacities (instance_edge_at i k))
    (min (value_u i k) (value_v i k))

abbrev pub room_of : Network → ℕ → ℕ
room_of i = room_by Own i

abbrev pub unit_room_of : Network → ℕ → ℕ
unit_room_of i = room_by Once i

-- how often an answer may use an edge: once, or as often as the values or the greatest degrees at
-- its ends and its capacity let it
abbrev pub most_by : EdgeUse → Network → InstanceEdge → ℕ
most_by use_of.Once i e = 1
most_by use_of.AnyNumber i e = min (value_of i e.u) (value_of i e.v)
most_by use_of.WithinCapacity i e = bounded e.capacity (min (value_of i e.u) (value_of i e.v))
most_by use_of.WithinBounds i e = bounded e.capacity (min (high_of i e.u) (high_of i e.v))

-- copies of the vertices, and for each edge its room twice; the edges from the copies and between
abbrev pub capped_size : Network → (ℕ → ℕ) → Size
capped_size i room = record {
  vertices = value_total i + 2 * sum_to room (length i.edges);
  edges = sum_to (λ k. room k * (value_u i k + room k + value_v i k)) (length i.edges);
}

-- how many copies of vertex k + 1 may stay free
abbrev pub spare_copies : Network → ℕ → ℕ
spare_copies i k = high_of i (k + 1) - low_of i (k + 1)

-- the graph of gates for the greatest degrees twice, and an edge for each copy that may stay free
abbrev pub halves_size : Network → Size
halves_size i = let half = capped_size (at_most i) (room_of (at_most i)) in record {
  vertices = 2 * half.vertices;
  edges = 2 * half.edges + sum_to (spare_copies i) (vertices i);
}

-- how many of the vertices before v have odd values
abbrev pub odd_before : Network → ℕ → ℕ
odd_before i v = sum_to (λ k. slice_index i.values k % 2) (v - 1)

-- v has an odd value, and so many vertices before it have: the first end none, the second one
abbrev pub is_end : ℕ → Network → ℕ → Bool
is_end before i v = (value_of i v % 2 == 1) && (odd_before i v == before)

-- The vertices that stand in the first copy of the graph for paths of an odd or an even number of
-- edges, and those of the second: an odd path leaves the first end and comes to the second by edges
-- of the first copy, an even one comes there by an edge of the second.
abbrev pub in_first : Bool → Network → ℕ → Bool
in_first true i v = true
in_first false i v = not (is_end 1 i v)

abbrev pub in_second : Bool → Network → ℕ → Bool
in_second true i v = not (value_of i v % 2 == 1)
in_second false i v = not (is_end 0 i v)

-- how many of the first n vertices stand there
abbrev pub standing : (ℕ → Bool) → ℕ → ℕ
standing there n = sum_to (λ k. if there (k + 1) then 1 else 0) n

-- the edge at a place isn't a loop, and both of its ends stand there
abbrev pub joins : (ℕ → Bool) → Network → ℕ → Bool
joins there i k = not (is_loop_at i k)
    && (there (instance_edge_at i k).u && there (instance_edge_at i k).v)

-- two copies of the graph, and an edge for each vertex that stands in both
abbrev pub sides_size : Network → (ℕ → Bool) → (ℕ → Bool) → Size
sides_size i one two = record {
  vertices = standing one (vertices i) + standing two (vertices i);
  edges = sum_to (λ k. (if joins one i k then 1 else 0) + (if joins two i k then 1 else 0))
      (length i.edges) + standing (λ v. one v && two v) (vertices i);
}

-- how many edges meet a vertex
abbrev pub edge_count_at : Network → ℕ → ℕ
edge_count_at i v = degree (graph_of i) (replicate (length i.edges) 1) v

-- a port for each edge at v, and one more where the number of edges and `odd` differ in parity
abbrev pub port_count : Network → (ℕ → ℕ) → ℕ → ℕ
port_count i odd v = edge_count_at i v + (edge_count_at i v + odd v) % 2

abbrev pub ports_size : Network → (ℕ → ℕ) → Size
ports_size i odd = record {
  vertices = sum_to (λ k. port_count i odd (k + 1)) (vertices i);
  edges = length i.edges + sum_to
      (λ k. port_count i odd (k + 1) * (port_count i odd (k + 1) - 1) / 2) (vertices i);
}

-- the greater number of vertices, and the greater number of edges
abbrev pub greater : Size → Size → Size
greater a b = record { vertices = max a.vertices b.vertices; edges = max a.edges b.edges }

-- the parity that a join has at a vertex of this many edges and this value
abbrev pub odd_by : Parity → ℕ → ℕ → ℕ
odd_by Empty degree value = 0
odd_by Values degree value = value % 2
odd_by OddDegrees degree value = degree % 2

-- the parity that a join has at vertex v
abbrev pub odd_at : Parity → Network → ℕ → ℕ
odd_at parity i v = odd_by parity (edge_count_at i v) (value_of i v)

-- the size of the graph that is built so
abbrev pub size_by : GadgetForm → Network → Size
size_by Itself i = record { vertices = vertices i; edges = link_count i }
size_by Doubled i = record { vertices = 2 * vertices i; edges = 2 * link_count i + vertices i }
size_by Copies i = record {
  vertices = value_total i;
  edges = sum_to (copy_pairs i) (length i.edges);
}
size_by (Capped capacities) i = capped_size i (room_by capacities i)
size_by (Ports parity) i = ports_size i (odd_at parity i)
size_by PathPorts i = greater (ports_size i (odd_at Values i)) (ports_size i (odd_at Empty i))
size_by Halves i = halves_size i
size_by Unweighted i = record { vertices = vertices i; edges = link_count i }
size_by (Sides odd) i = sides_size i (in_first odd i) (in_second odd i)

abbrev pub size_of : Kind → Network → Size
size_of kind i = size_by (gadget_of kind) i

-- the size of the one certificate graph, if it is built so
abbrev pub certified_by : GadgetForm → Network → Size
certified_by Itself i = size_by Itself i
certified_by Doubled i = size_by Doubled i
certified_by Copies i = size_by Copies i
certified_by (Capped capacities) i = size_by (Capped capacities) i
certified_by (Ports parity) i = size_by (Ports parity) i
certified_by PathPorts i = size_by (Ports Values) i
certified_by Halves i = size_by Halves i
certified_by Unweighted i = size_by Unweighted i
certified_by (Sides odd) i = size_by (Sides odd) i

abbrev pub certified_size : Kind → Network → Size
certified_size kind i = certified_by (gadget_of kind) i
