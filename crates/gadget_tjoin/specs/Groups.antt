-- The ports of each vertex, as tables.
use Rattle.std.specs.Prelude.{◌≡◌, ℕ, ◌+◌, ◌-◌, ◌<◌, ◌≤◌, List, length, slice_index, if◌then◌else◌}
use Rattle.graph_theory.specs.declared.edge.Edge.{Edge}
use Rattle.graph_theory.specs.Graph.{is_loop}
use Rattle.mb_problem.specs.declared.instance.InstanceEdge.{InstanceEdge}
use Rattle.mb_problem.specs.Network.{Network, vertices, plain}
use Rattle.mb_problem.specs.Size.{port_count}
use Rattle.gadget_base.specs.Gadgets.{ports_below}

-- at place k how many ports and spares stand before those of vertex k + 1, and how many it has; at
-- the end of `before` how many there are in all
pub record AreGroups (i : Network) (odd : ℕ → ℕ) (before sizes : List ℕ) : Type 0 where
  pub one_size_each : length sizes ≡ vertices i
  pub one_more : length before ≡ vertices i + 1
  pub sizes_are : (k : ℕ) → k < vertices i → slice_index sizes k ≡ port_count i odd (k + 1)
  pub before_are : (k : ℕ) → k ≤ vertices i → slice_index before k ≡ ports_below i odd (k + 1)

-- the edge between the next ports of an edge's ends, where `next` has for each vertex how many
-- vertices stand before its next port; those of a loop stand side by side
abbrev pub next_link : List ℕ → InstanceEdge → Edge
next_link next e = record {
  u = slice_index next (e.u - 1) + 1;
  v = slice_index next (e.v - 1) + 1 + (if is_loop (plain e) then 1 else 0);
  w = e.w;
}
