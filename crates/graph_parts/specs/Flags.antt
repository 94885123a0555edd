-- Flags at vertices whose degree has the wrong parity yet. Edges are taken or not.
use Rattle.std.specs.Prelude.{◌≡◌, ℕ, ◌+◌, ◌%◌, ◌≤◌, ◌<◌, ◌==◌, Bool, true, false, not, List}
use Rattle.std.specs.Prelude.{length, map, Option, None, Some, if◌then◌else◌}
use Rattle.std.specs.List.{range_with_len}
use Rattle.graph_theory.specs.Graph.{Multigraph, degree}
use Rattle.graph_parts.specs.Marks.{is_marked}

-- one mark is turned
abbrev pub IsToggled : ℕ → List Bool → List Bool → Type 0
IsToggled place old new = (v : ℕ) → is_marked new v ≡ (if place == v then not (is_marked old v)
    else is_marked old v)

-- for each of the first m edges 1 where its number is marked, and 0 elsewhere
abbrev pub taken_counts : List Bool → ℕ → List ℕ
taken_counts taken m = map (λ e. if is_marked taken e then 1 else 0) (range_with_len 1 m)

-- the edges that are taken and the flags have together the parity `odd v` at each vertex v
abbrev pub IsBalanced : Multigraph → (ℕ → ℕ) → List Bool → List Bool → Type 0
IsBalanced g odd taken flags = (v : ℕ) → 1 ≤ v → v ≤ g.vertices
    → (degree g (taken_counts taken (length g.edges)) v + (if is_marked flags v then 1 else 0)) % 2
    ≡ odd v

-- the first marked place, or none is marked
abbrev pub IsFirstMarked : List Bool → Option ℕ → Type 0
IsFirstMarked marks None = (v : ℕ) → is_marked marks v ≡ false
IsFirstMarked marks (Some v) = (is_marked marks v ≡ true) × ((w : ℕ) → w < v → is_marked marks w
    ≡ false)
