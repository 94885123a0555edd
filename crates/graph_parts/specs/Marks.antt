-- Vertices that are marked.
use Rattle.std.specs.Prelude.{◌≡◌, ℕ, ◌≤◌, ◌↔◌, Bool, true, false, List, slice_index_or}
use Rattle.std.specs.List.Sorted.{IsStrictlyIncreasing}
use Rattle.graph_theory.specs.Parts.{holds}

abbrev pub is_marked : List Bool → ℕ → Bool
is_marked marks v = slice_index_or marks v false

-- exactly the members of the set are marked
abbrev pub MarksSet : List Bool → List ℕ → Type 0
MarksSet marks set = (v : ℕ) → is_marked marks v ≡ holds set v

-- the marked vertices, ascending
pub record ListsMarked (marks : List Bool) (vertices : List ℕ) : Type 0 where
  pub ascending : IsStrictlyIncreasing vertices
  pub exact : (v : ℕ) → (holds vertices v ≡ true) ↔ ((1 ≤ v) × (is_marked marks v ≡ true))
