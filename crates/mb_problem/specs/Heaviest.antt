-- The heaviest edge that an answer uses.
use Rattle.std.specs.Prelude.{ℕ, zero, suc, ℤ, pos, int_le, nat_lt, List, length, slice_index}
use Rattle.std.specs.Prelude.{if◌then◌else◌, Option, None, Some, unwrap_or}
use Rattle.graph_theory.specs.Graph.{Multigraph, edge_at, edge_of}

-- the greater of two numbers, if either may be missing
abbrev pub greater_of : Option ℤ → Option ℤ → Option ℤ
greater_of None b = b
greater_of (Some a) None = Some a
greater_of (Some a) (Some b) = Some (if int_le b a then a else b)

-- the greatest of the numbers at the first n places that have one
abbrev pub greatest_to : (ℕ → Option ℤ) → ℕ → Option ℤ
greatest_to f zero = None
greatest_to f (suc n) = greater_of (greatest_to f n) (f n)

-- the weight of the edge at a place, if it is used
abbrev pub used_weight : Multigraph → List ℕ → ℕ → Option ℤ
used_weight g counts k = if nat_lt 0 (slice_index counts k) then Some (edge_at g k).w else None

-- the greatest weight of an edge that is used, and 0 if none is
abbrev pub heaviest : Multigraph → List ℕ → ℤ
heaviest g counts = unwrap_or (greatest_to (used_weight g counts) (length g.edges)) (pos 0)

-- the same of the edges of a walk
abbrev pub heaviest_step : Multigraph → List ℕ → ℤ
heaviest_step g edges =
    unwrap_or (greatest_to (λ k. Some (edge_of g (slice_index edges k)).w) (length edges)) (pos 0)
