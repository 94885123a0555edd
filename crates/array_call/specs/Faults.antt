-- The first fault of arrays. The order is that of the rules: the lengths, the numbers of vertices
-- and edges, the edges in their order, the vertices in theirs, and then what the kind needs. Of an
-- edge the ends come first, then the weight, and last the capacity; the ends may be equal.
use Rattle.std.specs.Prelude.{◌≡◌, ◌≤◌, ℕ, zero, suc, ◌+◌, ◌*◌, ◌%◌, ◌==◌, nat_lt, Bool, not, ◌&&◌}
use Rattle.std.specs.Prelude.{◌||◌, if◌then◌else◌}
use Rattle.std.specs.Prelude.{ℤ, pos, neg_ℤ, negsuc, int_lt, length, slice_index, Option, None}
use Rattle.std.specs.Prelude.{Some}
use Rattle.std.specs.Option.{option_map, option_or}
use Rattle.graph_theory.specs.declared.limits.TheConstants.{WEIGHT_LIMIT}
use Rattle.graph_theory.specs.Sums.{sum_to}
use Rattle.mb_problem.specs.declared.kind.Kind.{Kind}
use Rattle.mb_problem.specs.declared.kind.Precondition.{Precondition}
use Rattle.mb_problem.specs.declared.kind.Precondition.TheVariants.{Unrestricted, WeightsFromZero}
use Rattle.mb_problem.specs.declared.kind.Precondition.TheVariants.{Ends}
use Rattle.mb_problem.specs.declared.kind.Precondition.TheVariants.{EndsAndWeightsFromZero}
use Rattle.mb_problem.specs.declared.limits.TheConstants.{VERTEX_LIMIT, EDGE_LIMIT, VALUE_LIMIT}
use Rattle.mb_problem.specs.Kinds.{need_of}
use Rattle.certificates.specs.Ranges.{is_between}
use Rattle.array_call.specs.declared.rule.ArrayRule.{ArrayRule}
use Rattle.array_call.specs.declared.rule.ArrayRule.TheVariants.{Lengths, Vertices, Edges, End}
use Rattle.array_call.specs.declared.rule.ArrayRule.TheVariants.{Weight, Capacity, Value, Negative}
use Rattle.array_call.specs.declared.rule.ArrayRule.TheVariants.{PathEnds}
use Rattle.array_call.specs.declared.rule.ArrayFault.{ArrayFault}
use Rattle.array_call.specs.Arrays.{Arrays, edge_count, weight_at, capacity_mark}
use Rattle.array_call.specs.Arrays.{value_width, value_at, low_at, high_at}

abbrev pub fault : ArrayRule → ℕ → ArrayFault
fault rule place = record { rule = rule; place = place }

-- ---- the lengths, and the numbers of vertices and edges

-- so many items as are wanted, or none
abbrev pub has_length : ℕ → ℕ → Bool
has_length items wanted = (items == 0) || (items == wanted)

abbrev pub has_lengths : Kind → Arrays → Bool
has_lengths kind a =
    (length a.to == edge_count a)
    && (has_length (length a.weights) (edge_count a)
    && (has_length (length a.capacities) (edge_count a)
    && has_length (length a.values) (value_width kind * a.vertices)))

abbrev pub size_fault : Kind → Arrays → Option ArrayFault
size_fault kind a =
    if not (has_lengths kind a) then Some (fault Lengths 0) else
    (if nat_lt VERTEX_LIMIT a.vertices then Some (fault Vertices 0) else
    (if nat_lt EDGE_LIMIT (edge_count a) then Some (fault Edges 0) else None))

-- ---- edges and vertices, one by one

abbrev pub is_vertex : ℕ → ℕ → Bool
is_vertex n v = nat_lt 0 v && not (nat_lt n v)

-- the rule that an edge breaks, of n vertices: by its ends, its weight and what stands for its
-- capacity
abbrev pub edge_rule : ℕ → ℕ → ℕ → ℤ → ℤ → Option ArrayRule
edge_rule n u v w capacity =
    if not (is_vertex n u && is_vertex n v) then Some End else
    (if not (is_between (neg_ℤ WEIGHT_LIMIT) WEIGHT_LIMIT w) then Some Weight else
    (if not (is_between (negsuc 0) (pos VALUE_LIMIT) capacity) then Some Capacity else None))

-- the rule that the edge at a place breaks, from 0
abbrev pub edge_fault : Arrays → ℕ → Option ArrayRule
edge_fault a k = edge_rule a.vertices (slice_index a.from k) (slice_index a.to k) (weight_at a k)
    (capacity_mark a k)

-- the rule that a vertex breaks, by its value and its least and greatest degree
abbrev pub value_rule : ℕ → ℕ → ℕ → Option ArrayRule
value_rule value low high =
    if nat_lt VALUE_LIMIT value || (nat_lt VALUE_LIMIT high || nat_lt high low) then Some Value
    else None

-- the rule that the vertex at a place breaks
abbrev pub value_fault : Kind → Arrays → ℕ → Option ArrayRule
value_fault kind a k = value_rule (value_at kind a k) (low_at kind a k) (high_at kind a k)

abbrev pub negative_fault : Arrays → ℕ → Option ArrayRule
negative_fault a k = if int_lt (weight_at a k) (pos 0) then Some Negative else None

-- the first of n places at which a rule is broken, counted from 1, if this is the rule for each
-- place
abbrev pub first : (ℕ → Option ArrayRule) → ℕ → Option ArrayFault
first rule_at zero = None
first rule_at (suc n) =
    option_or (first rule_at n) (option_map (λ rule. fault rule (n + 1)) (rule_at n))

abbrev pub edges_fault : Arrays → Option ArrayFault
edges_fault a = first (edge_fault a) (edge_count a)

abbrev pub values_fault : Kind → Arrays → Option ArrayFault
values_fault kind a = first (value_fault kind a) a.vertices

-- ---- what the kind needs

abbrev pub negatives_fault : Arrays → Option ArrayFault
negatives_fault a = first (negative_fault a) (edge_count a)

-- how many values are odd
abbrev pub odd_values : Kind → Arrays → ℕ
odd_values kind a = sum_to (λ k. value_at kind a k % 2) a.vertices

abbrev pub ends_fault : Kind → Arrays → Option ArrayFault
ends_fault kind a = if odd_values kind a == 2 then None else Some (fault PathEnds 0)

abbrev pub need_fault : Precondition → Kind → Arrays → Option ArrayFault
need_fault Unrestricted kind a = None
need_fault WeightsFromZero kind a = negatives_fault a
need_fault Ends kind a = ends_fault kind a
need_fault EndsAndWeightsFromZero kind a = option_or (negatives_fault a) (ends_fault kind a)

abbrev pub kind_fault : Kind → Arrays → Option ArrayFault
kind_fault kind a = need_fault (need_of kind) kind a

-- ---- the whole

-- the first fault of arrays as an instance of a kind
abbrev pub array_fault : Kind → Arrays → Option ArrayFault
array_fault kind a =
    option_or (size_fault kind a)
    (option_or (edges_fault a) (option_or (values_fault kind a) (kind_fault kind a)))

-- both ends of each edge are there, and vertices and edges aren't too many
pub record IsSized (a : Arrays) : Type 0 where
  pub ends : length a.to ≡ edge_count a
  pub few_vertices : a.vertices ≤ VERTEX_LIMIT
  pub few_edges : edge_count a ≤ EDGE_LIMIT
