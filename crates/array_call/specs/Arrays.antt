-- An instance as arrays, and which instance they are.
use Rattle.std.specs.Prelude.{ℕ, ◌+◌, ◌*◌, ℤ, pos, negsuc, List, length, slice_index}
use Rattle.std.specs.Prelude.{slice_index_or}
use Rattle.std.specs.Prelude.{Option, None, Some, if◌then◌else◌}
use Rattle.mb_problem.specs.declared.kind.Kind.{Kind}
use Rattle.mb_problem.specs.declared.instance.InstanceEdge.{InstanceEdge}
use Rattle.mb_problem.specs.Kinds.{default_value_of, has_bounds}
use Rattle.mb_problem.specs.Network.{Network}
use Rattle.gadget_base.specs.Blocks.{tabled}
use Rattle.array_call.specs.declared.arrays.InstanceArrays.{InstanceArrays}

-- the number of vertices, the ends, weights and capacities of edges, and the values of vertices, or
-- for a kind with bounds the least and the greatest degree of each in turn
pub record Arrays : Type 0 where
  pub vertices : ℕ
  pub from : List ℕ
  pub to : List ℕ
  pub weights : List ℤ
  pub capacities : List ℤ
  pub values : List ℕ

abbrev pub arrays_of : InstanceArrays → Arrays
arrays_of x = record {
  vertices = x.vertices;
  from = x.from.now;
  to = x.to.now;
  weights = x.weights.now;
  capacities = x.capacities.now;
  values = x.values.now;
}

-- how many edges there are
abbrev pub edge_count : Arrays → ℕ
edge_count a = length a.from

-- the weight of the edge at a place, from 0; without weights 1
abbrev pub weight_at : Arrays → ℕ → ℤ
weight_at a k = slice_index_or a.weights k (pos 1)

-- what stands for the capacity of the edge at a place; without capacities -1
abbrev pub capacity_mark : Arrays → ℕ → ℤ
capacity_mark a k = slice_index_or a.capacities k (negsuc 0)

-- the capacity that a number stands for: none if it is negative
abbrev pub capacity_from : ℤ → Option ℕ
capacity_from (pos c) = Some c
capacity_from (negsuc c) = None

-- how many numbers of `values` stand for a vertex
abbrev pub value_width : Kind → ℕ
value_width kind = if has_bounds kind then 2 else 1

-- the value of the vertex at a place, from 0; without values, or for a kind with bounds, the
-- default of the kind
abbrev pub value_at : Kind → Arrays → ℕ → ℕ
value_at kind a k =
    if has_bounds kind then default_value_of kind
    else slice_index_or a.values k (default_value_of kind)

-- the least and the greatest degree of the vertex at a place: 0 and 1 without values, or for a kind
-- without bounds
abbrev pub low_at : Kind → Arrays → ℕ → ℕ
low_at kind a k = if has_bounds kind then slice_index_or a.values (2 * k) 0 else 0

abbrev pub high_at : Kind → Arrays → ℕ → ℕ
high_at kind a k = if has_bounds kind then slice_index_or a.values (2 * k + 1) 1 else 1

-- the edge at a place
abbrev pub edge_at : Arrays → ℕ → InstanceEdge
edge_at a k = record {
  u = slice_index a.from k;
  v = slice_index a.to k;
  w = weight_at a k;
  capacity = capacity_from (capacity_mark a k);
}

-- the instance that arrays are, for a kind
abbrev pub network_of : Kind → Arrays → Network
network_of kind a = record {
  edges = tabled (edge_at a) (edge_count a);
  values = tabled (value_at kind a) a.vertices;
  lows = tabled (low_at kind a) a.vertices;
  highs = tabled (high_at kind a) a.vertices;
}
