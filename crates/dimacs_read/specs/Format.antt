-- Which line of an instance is at fault, by which rule, and what instance the lines hold.
use Rattle.std.specs.Prelude.{Bool, ◌≡◌, ℕ, suc, ◌∷◌, ◌+◌, ◌%◌, ◌<◌, ◌⊎◌, is_some, List, [], length}
use Rattle.std.specs.Prelude.{take, map, filter, count_by, not, ◌&&◌, ◌||◌, ◌==◌, nat_lt}
use Rattle.std.specs.Prelude.{if◌then◌else◌, Option, None}
use Rattle.std.specs.Prelude.{Some, Result, Ok, Err, ℤ, pos, neg_ℤ, nat_abs, int_le, int_lt}
use Rattle.std.specs.Prelude.{unwrap_or, codes, slice_index_or}
use Rattle.std.specs.List.{find, range_with_len}
use Rattle.std.specs.Option.{option_map, option_or}
use Rattle.std.specs.Str.{bytes_eq}
use Rattle.mb_base.specs.Text.{numeral}
use Rattle.mb_base.specs.Rows.{Row, field_at, is_skipped}
use Rattle.mb_problem.specs.declared.kind.Kind.{Kind}
use Rattle.mb_problem.specs.declared.kind.Precondition.{Precondition}
use Rattle.mb_problem.specs.declared.kind.Precondition.TheVariants.{Unrestricted, WeightsFromZero}
use Rattle.mb_problem.specs.declared.kind.Precondition.TheVariants.{Ends}
use Rattle.mb_problem.specs.declared.kind.Precondition.TheVariants.{EndsAndWeightsFromZero}
use Rattle.mb_problem.specs.declared.instance.InstanceEdge.{InstanceEdge}
use Rattle.graph_theory.specs.declared.limits.TheConstants.{WEIGHT_LIMIT}
use Rattle.mb_problem.specs.declared.limits.TheConstants.{VERTEX_LIMIT, EDGE_LIMIT, VALUE_LIMIT}
use Rattle.mb_problem.specs.Kinds.{default_value_of, need_of, has_bounds}
use Rattle.mb_problem.specs.Network.{Network}
use Rattle.dimacs_read.specs.declared.rule.Rule.{Rule}
use Rattle.dimacs_read.specs.declared.rule.Rule.TheVariants.{UnknownLine, HeaderMissing}
use Rattle.dimacs_read.specs.declared.rule.Rule.TheVariants.{HeaderTwice, HeaderForm, FieldCount}
use Rattle.dimacs_read.specs.declared.rule.Rule.TheVariants.{Number, Range, NodeTwice}
use Rattle.dimacs_read.specs.declared.rule.Rule.TheVariants.{EdgeCount, Negative, PathEnds}
use Rattle.dimacs_read.specs.declared.rule.Fault.{Fault}
use Rattle.dimacs_read.specs.declared.line.Given.{Given}
use Rattle.dimacs_read.specs.declared.line.Given.TheVariants.{Value, Bounds}
use Rattle.dimacs_read.specs.declared.line.Node.{Node}
use Rattle.dimacs_read.specs.Rows.{is_header, is_edge, is_node}

-- ---- tests in order: the first that fails gives the rule

infixl 10 ◌>>=◌
abbrev pub ◌>>=◌ : {A B : Type 0} → Result A Rule → (A → Result B Rule) → Result B Rule
(Ok x) >>= f = f x
(Err rule) >>= f = Err rule

abbrev pub within : ℤ → ℤ → ℤ → Result ℤ Rule
within low high z = if int_le low z && int_le z high then Ok z else Err Range

abbrev pub ranged : ℤ → ℤ → Option ℤ → Result ℤ Rule
ranged low high None = Err Number
ranged low high (Some z) = within low high z

-- a field that has to be a number, and one in a range
abbrev pub number_in : ℤ → ℤ → List ℕ → Result ℤ Rule
number_in low high field = ranged low high (numeral field)

abbrev pub natural_in : ℕ → ℕ → List ℕ → Result ℕ Rule
natural_in low high field = number_in (pos low) (pos high) field >>= λ z. Ok (nat_abs z)

-- what a header says: how many vertices and edges
pub record Sizes : Type 0 where
  pub vertices : ℕ
  pub edges : ℕ

abbrev pub sizes_at : Row → Result Sizes Rule
sizes_at row = natural_in 0 VERTEX_LIMIT (field_at row 2) >>= λ n. natural_in 0 EDGE_LIMIT
    (field_at row 3) >>= λ m. Ok (record { vertices = n; edges = m })

-- a header line, after a header or none
abbrev pub header_at : Option Sizes → Row → Result Sizes Rule
header_at (Some s) row = Err HeaderTwice
header_at None row =
    if not (length row == 4) then Err HeaderForm else
    (if not (bytes_eq (field_at row 1) (codes "edge") || bytes_eq (field_at row 1) (codes "col"))
    then Err HeaderForm else
    sizes_at row)

-- the weight of an edge line that has one, and else 1
abbrev pub row_weight : Row → Result ℤ Rule
row_weight row = if nat_lt (length row) 4 then Ok (pos 1)
    else number_in (neg_ℤ WEIGHT_LIMIT) WEIGHT_LIMIT (field_at row 3)

abbrev pub row_capacity : Row → Result (Option ℕ) Rule
row_capacity row = if nat_lt (length row) 5 then Ok None
    else (natural_in 0 VALUE_LIMIT (field_at row 4) >>= λ c. Ok (Some c))

-- an edge line, after a header or none
unfoldable pub edge_at : Option Sizes → Row → Result InstanceEdge Rule
edge_at None row = Err HeaderMissing
edge_at (Some s) row =
    if nat_lt (length row) 3 || nat_lt 5 (length row) then Err FieldCount else
    (natural_in 1 s.vertices (field_at row 1) >>= λ u.
    natural_in 1 s.vertices (field_at row 2) >>= λ v.
    row_weight row >>= λ w.
    row_capacity row >>= λ c.
    Ok (record { u = u; v = v; w = w; capacity = c }))

-- what a value line gives its vertex: a value, or the least and the greatest degree
abbrev pub value_at : Row → Result Given Rule
value_at row = natural_in 0 VALUE_LIMIT (field_at row 2) >>= λ b. Ok (Value b)

abbrev pub bounds_at : Row → Result Given Rule
bounds_at row = natural_in 0 VALUE_LIMIT (field_at row 2) >>= λ low.
    natural_in low VALUE_LIMIT (field_at row 3) >>= λ high. Ok (Bounds low high)

abbrev pub given_at : Bool → Row → Result Given Rule
given_at bounds row = if bounds then bounds_at row else value_at row

-- A value line, after a header or none, which gives bounds or a value. `named` tells the vertices
-- of earlier value lines.
unfoldable pub node_at : Bool → Option Sizes → (ℕ → Bool) → Row → Result Node Rule
node_at bounds None named row = Err HeaderMissing
node_at bounds (Some s) named row =
    if not (length row == (if bounds then 4 else 3)) then Err FieldCount else
    (natural_in 1 s.vertices (field_at row 1) >>= λ v.
    given_at bounds row >>= λ given.
    (if named v then Err NodeTwice else Ok (record { vertex = v; given = given })))

-- ---- lines

abbrev pub fault_of : {A : Type 0} → Result A Rule → Option Rule
fault_of (Ok x) = None
fault_of (Err rule) = Some rule

-- the rule that a line breaks, after a header or none and lines that name vertices
abbrev pub line_fault : Bool → Option Sizes → (ℕ → Bool) → Row → Option Rule
line_fault bounds header named row =
    if is_skipped row then None else
    (if is_header row then fault_of (header_at header row) else
    (if is_edge row then fault_of (edge_at header row) else
    (if is_node row then fault_of (node_at bounds header named row) else Some UnknownLine)))

-- the number that a field spells, where it does
abbrev pub number_at : Row → ℕ → ℤ
number_at row k = unwrap_or (numeral (field_at row k)) (pos 0)

abbrev pub natural_at : Row → ℕ → ℕ
natural_at row k = nat_abs (number_at row k)

abbrev pub sizes_of : Row → Sizes
sizes_of row = record { vertices = natural_at row 2; edges = natural_at row 3 }

abbrev pub sizes_in : Option Row → Option Sizes
sizes_in None = None
sizes_in (Some row) = Some (sizes_of row)

-- the header among some lines: the first header line of them
abbrev pub header_of : List Row → Option Sizes
header_of rs = sizes_in (find is_header rs)

-- a line gives this vertex a value
abbrev pub names : ℕ → Row → Bool
names v row = is_node row && (natural_at row 1 == v)

-- what a value line without a fault gives its vertex
abbrev pub row_given : Bool → Row → Given
row_given bounds row = if bounds then Bounds (natural_at row 2) (natural_at row 3)
    else Value (natural_at row 2)

-- what some lines give a vertex
abbrev pub given_in : Bool → List Row → ℕ → Option Given
given_in bounds rs v = option_map (row_given bounds) (find (names v) rs)

-- the rule that line number k, from 0, breaks: some earlier line is a header, or names a vertex
abbrev pub fault_at : Bool → List Row → ℕ → Option Rule
fault_at bounds rs k = let earlier = take k rs in line_fault bounds (header_of earlier)
    (λ v. is_some (given_in bounds earlier v)) (slice_index_or rs k [])

abbrev pub NoFaultBelow : Bool → List Row → ℕ → Type 0
NoFaultBelow bounds rs k = (j : ℕ) → j < k → fault_at bounds rs j ≡ None

-- ---- what the lines hold

abbrev pub row_edge : Row → InstanceEdge
row_edge row = record {
  u = natural_at row 1;
  v = natural_at row 2;
  w = if nat_lt (length row) 4 then pos 1 else number_at row 3;
  capacity = if nat_lt (length row) 5 then None else Some (natural_at row 4);
}

abbrev pub edges_of : List Row → List InstanceEdge
edges_of rs = map row_edge (filter is_edge rs)

-- the value of a vertex that is given this or nothing
abbrev pub value_or : ℕ → Option Given → ℕ
value_or default None = default
value_or default (Some (Value b)) = b
value_or default (Some (Bounds low high)) = default

-- its least and its greatest degree
abbrev pub low_or : Option Given → ℕ
low_or None = 0
low_or (Some (Value b)) = 0
low_or (Some (Bounds low high)) = low

abbrev pub high_or : Option Given → ℕ
high_or None = 1
high_or (Some (Value b)) = 1
high_or (Some (Bounds low high)) = high

-- what is read off what some lines give, at each of the vertices 1 to n
abbrev pub read_off : Bool → (Option Given → ℕ) → ℕ → List Row → List ℕ
read_off bounds read n rs = map (λ v. read (given_in bounds rs v)) (range_with_len 1 n)

-- the values for a kind
abbrev pub values_of : Kind → ℕ → List Row → List ℕ
values_of kind n rs = read_off (has_bounds kind) (value_or (default_value_of kind)) n rs

-- ---- what only the end shows

abbrev pub is_odd : ℕ → Bool
is_odd b = b % 2 == 1

-- the place of the first row that passes
abbrev pub first_place : (Row → Bool) → List Row → Option ℕ
first_place p [] = None
first_place p (row ∷ rs) = if p row then Some 0 else option_map (λ k. suc k) (first_place p rs)

-- the first edge line of negative weight
abbrev pub is_negative : Row → Bool
is_negative row = is_edge row && int_lt (row_edge row).w (pos 0)

-- an edge that weighs less than 0, the first of which stands at this place
abbrev pub negative_fault : Option ℕ → Option Fault
negative_fault first = option_map (λ k. record { rule = Negative; place = k }) first

-- other than two odd values, which only the end of the lines shows
abbrev pub ends_fault : List ℕ → ℕ → Option Fault
ends_fault values lines = if count_by is_odd values == 2 then None
    else Some (record { rule = PathEnds; place = lines })

-- what an instance of these values lacks, whose first edge of negative weight stands at this place,
-- if there is one, and which has so many lines
abbrev pub need_fault : Precondition → List ℕ → Option ℕ → ℕ → Option Fault
need_fault Unrestricted values first lines = None
need_fault WeightsFromZero values first lines = negative_fault first
need_fault Ends values first lines = ends_fault values lines
need_fault EndsAndWeightsFromZero values first lines =
    option_or (negative_fault first) (ends_fault values lines)

-- what a kind asks besides
abbrev pub kind_fault : Kind → ℕ → List Row → Option Fault
kind_fault kind n rs = need_fault (need_of kind) (values_of kind n rs)
    (first_place is_negative rs) (length rs)

abbrev pub end_fault : Kind → Option Sizes → List Row → Option Fault
end_fault kind None rs = Some (record { rule = HeaderMissing; place = length rs })
end_fault kind (Some s) rs =
    if length (edges_of rs) == s.edges then kind_fault kind s.vertices rs
    else Some (record { rule = EdgeCount; place = length rs })

-- ---- the whole

-- the least faulty line
pub record IsFirstFaulty (bounds : Bool) (rs : List Row) (rule : Rule) (place : ℕ) : Type 0 where
  pub there : place < length rs
  pub fault : fault_at bounds rs place ≡ Some rule
  pub least : NoFaultBelow bounds rs place

-- no line is faulty, and a test at the end fails
pub record FailsAtEnd (kind : Kind) (rs : List Row) (rule : Rule) (place : ℕ) : Type 0 where
  pub faultless : NoFaultBelow (has_bounds kind) rs (length rs)
  pub fault : end_fault kind (header_of rs) rs ≡ Some (record { rule = rule; place = place })

-- the first fault, on a line counted from 1
abbrev pub IsFirstFault : Kind → List Row → Rule → ℕ → Type 0
IsFirstFault kind rs rule line = (k : ℕ) × (line ≡ k + 1)
    × (IsFirstFaulty (has_bounds kind) rs rule k ⊎ FailsAtEnd kind rs rule k)

-- lines without a fault, and the instance that they hold
pub record HoldsInstance (kind : Kind) (rs : List Row) (i : Network) : Type 0 where
  pub faultless : NoFaultBelow (has_bounds kind) rs (length rs)
  pub header : Sizes
  pub header_is : header_of rs ≡ Some header
  pub whole : end_fault kind (Some header) rs ≡ None
  pub edges_are : i.edges ≡ edges_of rs
  pub values_are : i.values ≡ values_of kind header.vertices rs
  pub lows_are : i.lows ≡ read_off (has_bounds kind) low_or header.vertices rs
  pub highs_are : i.highs ≡ read_off (has_bounds kind) high_or header.vertices rs
