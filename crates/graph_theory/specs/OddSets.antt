-- Odd sets as a certificate gives them, each by vertices and earlier sets (chapters 25 and 26).
use Rattle.std.specs.Prelude.{◌≡◌, ℕ, zero, suc, ◌+◌, ◌-◌, ◌%◌, ◌<◌, ◌≤◌, pos, ◌≤ℤ◌, Bool, true}
use Rattle.std.specs.Prelude.{false}
use Rattle.std.specs.Prelude.{◌==◌, ◌||◌, List, [], length, map, All, slice_index_or, if◌then◌else◌}
use Rattle.std.specs.List.{list_any, filter, range_with_len}
use Rattle.std.specs.List.Sorted.{IsStrictlyIncreasing}
use Rattle.graph_theory.specs.declared.odd_set.OddSet.{OddSet}
use Rattle.graph_theory.specs.Parts.{holds}
use Rattle.graph_theory.specs.Duals.{DualSet}

abbrev pub no_given : OddSet
no_given = record { dual = pos 0; vertices = []; references = [] }

-- the set at place j, from 0; references count from 1
abbrev pub given_at : List OddSet → ℕ → OddSet
given_at sets j = slice_index_or sets j no_given

-- v lies in the set at place j, if that is one of the first n: it is one of its vertices, or lies
-- in a set that it refers to
abbrev pub lies_below : List OddSet → ℕ → ℕ → ℕ → Bool
lies_below sets zero j v = false
lies_below sets (suc n) j v =
    if j == n then holds (given_at sets n).vertices v
    || list_any (λ r. lies_below sets n (r - 1) v) (given_at sets n).references
    else lies_below sets n j v

-- v is a member of the set at place j
abbrev pub lies_in : List OddSet → ℕ → ℕ → Bool
lies_in sets j v = lies_below sets (suc j) j v

-- how many items of the set at place j have the member v, where its vertices are all different
abbrev pub items_with : List OddSet → ℕ → ℕ → ℕ
items_with sets j v = (if holds (given_at sets j).vertices v then 1 else 0)
    + length (filter (λ r. lies_in sets (r - 1) v) (given_at sets j).references)

-- an odd number of at least three items: vertices, and references to sets that no earlier set
-- refers to, both strictly ascending; no two items have a member in common
pub record HasItemForm (sets : List OddSet) (j : ℕ) : Type 0 where
  pub three : 3 ≤ length (given_at sets j).vertices + length (given_at sets j).references
  pub odd : (length (given_at sets j).vertices + length (given_at sets j).references) % 2 ≡ 1
  pub vertices : IsStrictlyIncreasing (given_at sets j).vertices
  pub references : IsStrictlyIncreasing (given_at sets j).references
  pub free : (i r : ℕ) → i < j → holds (given_at sets i).references r ≡ true
      → holds (given_at sets j).references r ≡ false
  pub apart : (v : ℕ) → items_with sets j v ≤ 1

abbrev pub HaveItemForm : List OddSet → Type 0
HaveItemForm sets = (j : ℕ) → j < length sets → HasItemForm sets j

-- each reference is to an earlier set
abbrev pub AreEarlier : List OddSet → Type 0
AreEarlier sets = (j : ℕ) → j < length sets
    → All (λ r. (1 ≤ r) × (r ≤ j)) (given_at sets j).references

-- a dual of at least 1, and vertices from 1 to n
pub record IsGivenWithin (n : ℕ) (s : OddSet) : Type 0 where
  pub positive : pos 1 ≤ℤ s.dual
  pub in_range : All (λ v. (1 ≤ v) × (v ≤ n)) s.vertices

-- the members of the set at place j among the vertices 1 to n, ascending
abbrev pub members_in : ℕ → List OddSet → ℕ → List ℕ
members_in n sets j = filter (lies_in sets j) (range_with_len 1 n)

-- the sets with all their members listed, in a graph with n vertices
abbrev pub listed_set : ℕ → List OddSet → ℕ → DualSet
listed_set n sets j = record { dual = (given_at sets j).dual; members = members_in n sets j }

abbrev pub listed_sets : ℕ → List OddSet → List DualSet
listed_sets n sets = map (listed_set n sets) (range_with_len 0 (length sets))
