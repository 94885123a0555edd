-- What the code keeps of earlier lines and of a line.
use Rattle.std.specs.Prelude.{◌≡◌, ◌-◌, Bool, is_some, slice_index_or, ◌≤◌, ℕ, List, map, All}
use Rattle.std.specs.Prelude.{Option, None, Some, Result, Ok, Err, IfSome}
use denote.Ref.{Bor}
use Rattle.mb_base.specs.Rows.{Row}
use Rattle.mb_problem.specs.declared.instance.InstanceEdge.{InstanceEdge}
use Rattle.mb_problem.specs.declared.limits.TheConstants.{VERTEX_LIMIT, EDGE_LIMIT, VALUE_LIMIT}
use Rattle.mb_problem.specs.Network.{IsInstanceEdge}
use Rattle.dimacs_read.specs.declared.line.Given.{Given}
use Rattle.dimacs_read.specs.declared.line.Given.TheVariants.{Value, Bounds}
use Rattle.dimacs_read.specs.declared.line.Header.{Header}
use Rattle.dimacs_read.specs.declared.rule.Rule.{Rule}
use Rattle.dimacs_read.specs.Format.{Sizes}

abbrev pub field_list : List (Bor (List ℕ)) → Row
field_list row = map (λ f. f.now) row

abbrev pub sizes_of_header : Header → Sizes
sizes_of_header h = record { vertices = h.vertices; edges = h.edges }

abbrev pub sizes : Option Header → Option Sizes
sizes None = None
sizes (Some h) = Some (sizes_of_header h)

abbrev pub seen : Result Header Rule → Result Sizes Rule
seen (Ok h) = Ok (sizes_of_header h)
seen (Err rule) = Err rule

-- a header announces no more than an instance may have
abbrev pub IsAnnounced : Header → Type 0
IsAnnounced h = (h.vertices ≤ VERTEX_LIMIT) × (h.edges ≤ EDGE_LIMIT)

abbrev pub HasFewVertices : Option Header → Type 0
HasFewVertices None = Unit {0}
HasFewVertices (Some h) = IsAnnounced h

-- so many vertices have a place for a value
abbrev pub HasValues : Option Header → ℕ → Type 0
HasValues None count = count ≡ 0
HasValues (Some h) count = count ≡ h.vertices

-- a vertex has been given a value or bounds
abbrev pub is_valued : List (Option Given) → ℕ → Bool
is_valued values v = is_some (slice_index_or values (v - 1) None)

-- a capacity, if there is one, is within the limit
abbrev pub IsSmall : Option ℕ → Type 0
IsSmall o = IfSome o (λ c. c ≤ VALUE_LIMIT)

-- an edge of the graph that a header announces
abbrev pub FitsHeader : Option Header → InstanceEdge → Type 0
FitsHeader None e = ⊥
FitsHeader (Some h) e = IsInstanceEdge h.vertices e

abbrev pub AllFit : Option Header → List InstanceEdge → Type 0
AllFit h es = All (FitsHeader h) es

-- what a vertex is given is within the limits
abbrev pub IsGiven : Given → Type 0
IsGiven (Value b) = b ≤ VALUE_LIMIT
IsGiven (Bounds low high) = (low ≤ high) × (high ≤ VALUE_LIMIT)

abbrev pub AreGiven : List (Option Given) → Type 0
AreGiven values = All (λ o. IfSome o IsGiven) values
