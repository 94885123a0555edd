-- What the code says of one line, and of the whole text.
use Rattle.std.specs.Prelude.{Bool, ◌≡◌, ◌≤◌, ◌==◌, ℕ, ◌+◌, ◌-◌, pos, int_lt, if◌then◌else◌, take}
use Rattle.std.specs.Prelude.{drop}
use Rattle.std.specs.Prelude.{map, slice_index_or, replicate, slice_set, length, List, [], ◌∷◌}
use Rattle.std.specs.Prelude.{◌++◌, true, false}
use Rattle.std.specs.Prelude.{Option, None, Some, Result, Ok, Err}
use Rattle.mb_base.specs.Rows.{Row, rows, is_skipped}
use Rattle.mb_problem.specs.declared.kind.Kind.{Kind}
use Rattle.mb_problem.specs.declared.instance.InstanceEdge.{InstanceEdge}
use Rattle.mb_problem.specs.Network.{Network}
use Rattle.dimacs_read.specs.declared.line.Given.{Given}
use Rattle.dimacs_read.specs.declared.line.Header.{Header}
use Rattle.dimacs_read.specs.declared.rest.Rest.{Rest}
use Rattle.dimacs_read.specs.declared.rule.Rule.{Rule}
use Rattle.dimacs_read.specs.declared.rule.Rule.TheVariants.{HeaderMissing, EdgeCount}
use Rattle.dimacs_read.specs.declared.rule.Fault.{Fault}
use Rattle.dimacs_read.specs.declared.reader.Draft.{Draft}
use Rattle.mb_problem.specs.Kinds.{default_value_of, need_of}
use Rattle.dimacs_read.specs.declared.keep.Line.{Line}
use Rattle.dimacs_read.specs.declared.keep.Line.TheVariants as line
use Rattle.dimacs_read.specs.declared.error.InstanceError.{InstanceError}
use Rattle.dimacs_read.specs.declared.error.InstanceError.TheVariants.{Malformed, OutOfMemory}
use Rattle.dimacs_read.specs.Rows.{is_header, is_edge, is_node, instance_rows}
use Rattle.dimacs_read.specs.Format.{Sizes, header_at, edge_at, node_at, line_fault, header_of}
use Rattle.dimacs_read.specs.Format.{given_in, edges_of, first_place, is_negative, need_fault}
use Rattle.dimacs_read.specs.Format.{value_or, low_or, high_or, NoFaultBelow}
use Rattle.dimacs_read.specs.Format.{IsFirstFaulty, IsFirstFault, HoldsInstance}
use Rattle.dimacs_read.specs.Line.{sizes, sizes_of_header, FitsHeader, HasValues, HasFewVertices}
use Rattle.dimacs_read.specs.Line.{IsAnnounced, AllFit, IsGiven, AreGiven}
use Rattle.dimacs_read.specs.Rest.{IsRest, after_lines}

-- a line without a fault is one of the kinds
abbrev pub IsLine : Bool → Option Header → (ℕ → Bool) → ℕ → Row → Line → Type 0
IsLine bounds header named count row line.Skipped = is_skipped row ≡ true
IsLine bounds header named count row (line.Header h) = (is_skipped row ≡ false)
    × (is_header row ≡ true) × (header_at (sizes header) row ≡ Ok (sizes_of_header h))
    × IsAnnounced h
IsLine bounds header named count row (line.Edge e) = (is_skipped row ≡ false)
    × (is_header row ≡ false) × (is_edge row ≡ true) × (edge_at (sizes header) row ≡ Ok e)
    × FitsHeader header e
IsLine bounds header named count row (line.Node node) = (is_header row ≡ false)
    × (is_edge row ≡ false) × (is_node row ≡ true)
    × (node_at bounds (sizes header) named row ≡ Ok node) × (1 ≤ node.vertex)
    × (node.vertex ≤ count) × IsGiven node.given

abbrev pub GivesLine : Bool → Option Header → (ℕ → Bool) → ℕ → Row → Result Line Rule → Type 0
GivesLine bounds header named count row (Ok l) = (line_fault bounds (sizes header) named row ≡ None)
    × IsLine bounds header named count row l
GivesLine bounds header named count row (Err rule) =
    line_fault bounds (sizes header) named row ≡ Some rule

-- there is a place for what a line gives
abbrev pub HasPlace : ℕ → Line → Type 0
HasPlace count line.Skipped = Unit {0}
HasPlace count (line.Header h) = Unit {0}
HasPlace count (line.Edge e) = Unit {0}
HasPlace count (line.Node node) = (1 ≤ node.vertex) × (node.vertex ≤ count)

-- what is kept after a line
abbrev pub header_after : Option Header → Line → Option Header
header_after h line.Skipped = h
header_after h (line.Header found) = Some found
header_after h (line.Edge e) = h
header_after h (line.Node node) = h

abbrev pub edges_after : List InstanceEdge → Line → List InstanceEdge
edges_after es line.Skipped = es
edges_after es (line.Header found) = es
edges_after es (line.Edge e) = es ++ e ∷ []
edges_after es (line.Node node) = es

abbrev pub values_after : List (Option Given) → Line → List (Option Given)
values_after vs line.Skipped = vs
values_after vs (line.Header found) = replicate found.vertices None
values_after vs (line.Edge e) = vs
values_after vs (line.Node node) = slice_set vs (node.vertex - 1) (Some node.given)

-- the first edge of negative weight, on a line from 0
abbrev pub negative_after : Option ℕ → Line → ℕ → Option ℕ
negative_after (Some k) l place = Some k
negative_after None (line.Edge e) place = if int_lt e.w (pos 0) then Some place else None
negative_after None l place = None

-- the first k lines have been read without a fault
pub record IsRead (bounds : Bool) (rs : List Row) (k : ℕ) (header : Option Header)
    (values : List (Option Given)) (edges : List InstanceEdge) (negative : Option ℕ) : Type 0 where
  pub faultless : NoFaultBelow bounds rs k
  pub header_is : sizes header ≡ header_of (take k rs)
  pub values_are : (v : ℕ) → 1 ≤ v
      → slice_index_or values (v - 1) None ≡ given_in bounds (take k rs) v
  pub edges_are : edges ≡ edges_of (take k rs)
  pub negative_is : negative ≡ first_place is_negative (take k rs)
  pub room : HasValues header (length values)
  pub size_limit : HasFewVertices header
  pub fit : AllFit header edges
  pub value_limit : AreGiven values

-- the first k lines of a text have been read without a fault, and this is what follows them
pub record IsReadTo (bounds : Bool) (bytes : List ℕ) (k : ℕ) (rest : List ℕ)
    (header : Option Header) (values : List (Option Given)) (edges : List InstanceEdge)
    (negative : Option ℕ) : Type 0 where
  pub left : drop k (instance_rows (rows bytes)) ≡ instance_rows (rows rest)
  pub after : rest ≡ after_lines k bytes
  pub so_far : IsRead bounds (instance_rows (rows bytes)) k header values edges negative
  pub within : k ≤ length (instance_rows (rows bytes))
  pub value_limit : k + length rest ≤ length bytes

-- Edges are read on: from where lines have been read up to k, whatever vertices were given, to
-- where they have been read up to l.
abbrev pub ReadsOn : Option Header → ℕ → List ℕ → List InstanceEdge → Option ℕ → ℕ → List ℕ
    → List InstanceEdge → Option ℕ → Type 0
ReadsOn header k rest edges negative l after more negative_then = (bounds : Bool)
    → (bytes : List ℕ) → (values : List (Option Given))
    → IsReadTo bounds bytes k rest header values edges negative
    → IsReadTo bounds bytes l after header values more negative_then

-- all lines of the instance have been read without a fault, and this is what follows them
pub record IsDraft (bounds : Bool) (bytes : List ℕ) (draft : Draft) : Type 0 where
  pub lines : draft.lines ≡ length (instance_rows (rows bytes))
  pub short : draft.lines ≤ length bytes
  pub so_far : IsRead bounds (instance_rows (rows bytes)) draft.lines draft.header
      draft.values.items draft.edges.items draft.negative
  pub rest : draft.rest.now ≡ after_lines draft.lines bytes

-- what reading the lines answers
abbrev pub ReadsLines : Bool → List ℕ → Result Draft InstanceError → Type 0
ReadsLines bounds bytes (Ok draft) = IsDraft bounds bytes draft
ReadsLines bounds bytes (Err (Malformed rule line)) = (k : ℕ) × (line ≡ k + 1)
    × IsFirstFaulty bounds (instance_rows (rows bytes)) rule k
ReadsLines bounds bytes (Err OutOfMemory) = Unit {0}

-- what the tests at the end answer, from what was kept
abbrev pub kind_fault_from : Kind → List (Option Given) → Option ℕ → ℕ → Option Fault
kind_fault_from kind values negative lines =
    need_fault (need_of kind) (map (value_or (default_value_of kind)) values) negative lines

abbrev pub end_fault_from : Kind → Option Sizes → List (Option Given) → ℕ → Option ℕ → ℕ
    → Option Fault
end_fault_from kind None values count negative lines = Some (record {
  rule = HeaderMissing;
  place = lines;
})
end_fault_from kind (Some s) values count negative lines =
    if count == s.edges then kind_fault_from kind values negative lines
    else Some (record { rule = EdgeCount; place = lines })

-- the instance of a kind, from what was kept
abbrev pub network_from : Kind → List (Option Given) → List InstanceEdge → Network
network_from kind values edges = record {
  edges = edges;
  values = map (value_or (default_value_of kind)) values;
  lows = map low_or values;
  highs = map high_or values;
}

-- ---- the whole

-- What reading a text answers: the instance of its lines up to a document with what follows it, or
-- the first fault.
abbrev pub Reads : Kind → List ℕ → Result (Network × Rest) InstanceError → Type 0
Reads kind bytes (Ok r) = HoldsInstance kind (instance_rows (rows bytes)) r.0 × IsRest bytes r.1
Reads kind bytes (Err (Malformed rule line)) =
    IsFirstFault kind (instance_rows (rows bytes)) rule line
Reads kind bytes (Err OutOfMemory) = Unit {0}
