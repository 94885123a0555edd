-- The made instances: each value and each edge from the state of the generator before it.
use Rattle.std.specs.Prelude.{ℕ, Bool, true, ◌+◌, ◌-◌, ◌*◌, ◌||◌, ◌==◌, nat_lt, nat_le}
use Rattle.std.specs.Prelude.{if◌then◌else◌, ℤ, pos, ◌-ℤ◌, List, replicate, Option, None, Some}
use Rattle.mb_problem.specs.declared.kind.Kind.{Kind}
use Rattle.mb_problem.specs.declared.kind.Precondition.{Precondition}
use Rattle.mb_problem.specs.declared.kind.Precondition.TheVariants.{Unrestricted, WeightsFromZero}
use Rattle.mb_problem.specs.declared.kind.Precondition.TheVariants.{Ends}
use Rattle.mb_problem.specs.declared.kind.Precondition.TheVariants.{EndsAndWeightsFromZero}
use Rattle.mb_problem.specs.declared.kind.VertexValue.{VertexValue}
use Rattle.mb_problem.specs.declared.kind.VertexValue.TheVariants.{Unused, Degree, Parity, End}
use Rattle.mb_problem.specs.declared.kind.VertexValue.TheVariants.{Bounds}
use Rattle.mb_problem.specs.declared.kind.EdgeUse.{EdgeUse}
use Rattle.mb_problem.specs.declared.kind.EdgeUse.TheVariants.{Once, AnyNumber, WithinCapacity}
use Rattle.mb_problem.specs.declared.kind.EdgeUse.TheVariants.{WithinBounds}
use Rattle.mb_problem.specs.Kinds.{need_of, vertex_value_of, edge_use_of, asks_conservative}
use Rattle.mb_problem.specs.declared.instance.InstanceEdge.{InstanceEdge}
use Rattle.mb_problem.specs.Network.{Network}
use Rattle.gadget_base.specs.Blocks.{tabled}
use Rattle.inst_gen.specs.declared.limits.TheConstants.{MADE_WEIGHT_LIMIT}
use Rattle.inst_gen.specs.Draws.{next_state, state_after, drawn}

-- ---- values of vertices

-- how many numbers are drawn for the values of k vertices
abbrev pub value_draws_by : VertexValue → ℕ → ℕ
value_draws_by Unused k = 0
value_draws_by Degree k = k
value_draws_by Parity k = k
value_draws_by End k = 0
value_draws_by Bounds k = 0

abbrev pub value_draws : Kind → ℕ → ℕ
value_draws kind k = value_draws_by (vertex_value_of kind) k

-- the value of the vertex at place k of n, from 0, in state s; the first vertex and the last are
-- the ends
abbrev pub value_by : VertexValue → ℕ → ℕ → ℕ → ℕ
value_by Unused s n k = 0
value_by Degree s n k = 1 + drawn 2 s
value_by Parity s n k = drawn 2 s
value_by End s n k = if (k == 0) || (k + 1 == n) then 1 else 0
value_by Bounds s n k = 0

abbrev pub value_at : Kind → ℕ → ℕ → ℕ → ℕ
value_at kind s n k = value_by (vertex_value_of kind) s n k

-- ---- edges

-- no negative weight is drawn if the kind asks for such an instance, or that no circuit weighs less
-- than 0
abbrev pub from_zero_by : Precondition → Bool → Bool
from_zero_by Unrestricted conservative = conservative
from_zero_by WeightsFromZero conservative = true
from_zero_by Ends conservative = conservative
from_zero_by EndsAndWeightsFromZero conservative = true

abbrev pub is_from_zero : Kind → Bool
is_from_zero kind = from_zero_by (need_of kind) (asks_conservative kind)

-- weights of at most MADE_WEIGHT_LIMIT in absolute value
abbrev pub weight_at : Kind → ℕ → ℤ
weight_at kind s =
    if is_from_zero kind then pos (drawn (MADE_WEIGHT_LIMIT + 1) s)
    else pos (drawn (2 * MADE_WEIGHT_LIMIT + 1) s) -ℤ pos MADE_WEIGHT_LIMIT

-- capacities from 1 to 3, if they are used
abbrev pub capacity_by : EdgeUse → ℕ → Option ℕ
capacity_by Once s = None
capacity_by AnyNumber s = None
capacity_by WithinCapacity s = Some (1 + drawn 3 s)
capacity_by WithinBounds s = Some (1 + drawn 3 s)

abbrev pub capacity_at : Kind → ℕ → Option ℕ
capacity_at kind s = capacity_by (edge_use_of kind) s

-- how many numbers are drawn for the weight and the capacity of an edge
abbrev pub label_draws_by : EdgeUse → ℕ
label_draws_by Once = 1
label_draws_by AnyNumber = 1
label_draws_by WithinCapacity = 2
label_draws_by WithinBounds = 2

abbrev pub label_draws : Kind → ℕ
label_draws kind = label_draws_by (edge_use_of kind)

-- the edge from u to v, whose weight is drawn in state s, and then its capacity
abbrev pub edge_between : Kind → ℕ → ℕ → ℕ → InstanceEdge
edge_between kind s u v =
    record { u = u; v = v; w = weight_at kind s; capacity = capacity_at kind (next_state s) }

-- the other end: a vertex other than u, where r counts those from 0 without u
abbrev pub other_than : ℕ → ℕ → ℕ
other_than u r = if nat_le u (1 + r) then 2 + r else 1 + r

-- The edge at place k, from 0, in state s. The first edges are those of a path through the n
-- vertices, whose ends aren't drawn
abbrev pub edge_at : Kind → ℕ → ℕ → ℕ → InstanceEdge
edge_at kind s n k =
    if nat_lt (k + 1) n then edge_between kind s (k + 1) (k + 2)
    else edge_between kind (state_after s 2) (1 + drawn n s)
    (other_than (1 + drawn n s) (drawn (n - 1) (next_state s)))

-- ---- all of them

-- how many numbers are drawn for k edges: weights and capacities, and the two ends of each that
-- isn't of the path
abbrev pub edge_draws : Kind → ℕ → ℕ → ℕ
edge_draws kind n k = label_draws kind * k + 2 * (k - (n - 1))

-- the values of n vertices, made from state s
abbrev pub values_from : Kind → ℕ → ℕ → List ℕ
values_from kind s n = tabled (λ k. value_at kind (state_after s (value_draws kind k)) n k) n

-- m edges between n vertices, made from state s
abbrev pub edges_from : Kind → ℕ → ℕ → ℕ → List InstanceEdge
edges_from kind s n m = tabled (λ k. edge_at kind (state_after s (edge_draws kind n k)) n k) m

-- the instance of n vertices and m edges that the kind and the start determine; degrees have the
-- bounds 0 and 1
abbrev pub made : Kind → ℕ → ℕ → ℕ → Network
made kind start n m =
    record {
      edges = edges_from kind (state_after start (value_draws kind n)) n m;
      values = values_from kind start n;
      lows = replicate n 0;
      highs = replicate n 1;
    }
