-- Odd sets that are nested, as the blossoms of a search are (chapters 24 and 26): of any two one
-- holds the other, or they have no vertex in common.
use Rattle.std.specs.Prelude.{◌≡◌, ◌⊎◌, ℕ, ◌-◌, ◌/◌, ◌<◌, true, false, List, [], ◌∷◌, length}
use Rattle.std.specs.List.Sorted.{IsStrictlyIncreasing}
use Rattle.graph_theory.specs.Parts.{holds}
use Rattle.graph_theory.specs.Duals.{DualSet, set_at}

-- the same vertices, in any order
abbrev pub AreSame : List ℕ → List ℕ → Type 0
AreSame xs ys = (v : ℕ) → holds xs v ≡ holds ys v

-- one of two sets holds the other, or they have no vertex in common
abbrev pub AreLaminar : List ℕ → List ℕ → Type 0
AreLaminar xs ys =
    ((v : ℕ) → holds ys v ≡ true → holds xs v ≡ true)
    ⊎ (((v : ℕ) → holds xs v ≡ true → holds ys v ≡ true) ⊎ ((v : ℕ) → holds xs v ≡ true → holds ys v
    ≡ false))

-- the first of two sets holds the other, or they have no vertex in common
abbrev pub HoldsOrMisses : List ℕ → List ℕ → Type 0
HoldsOrMisses xs ys =
    ((v : ℕ) → holds ys v ≡ true → holds xs v ≡ true)
    ⊎ ((v : ℕ) → holds xs v ≡ true → holds ys v ≡ false)

-- the sets are all different, and of any two the earlier one holds the later one, or they have no
-- member in common
pub record AreNested (sets : List DualSet) : Type 0 where
  pub different : (i j : ℕ) → i < j → j < length sets
      → AreSame (set_at sets i).members (set_at sets j).members → ⊥
  pub outer_first : (i j : ℕ) → i < j → j < length sets → HoldsOrMisses (set_at sets i).members
      (set_at sets j).members

-- n vertices have at most so many blossoms: nested odd sets of at least three vertices, all
-- different
abbrev pub most_blossoms : ℕ → ℕ
most_blossoms n = (n - 1) / 2

-- the same sets with the same duals, in the same order, the members of each ascending
abbrev pub AreAscending : List DualSet → List DualSet → Type 0
AreAscending [] sets = sets ≡ []
AreAscending (s ∷ rest) sets = (t : DualSet) × (others : List DualSet) × (sets ≡ t ∷ others)
    × (t.dual ≡ s.dual) × AreSame t.members s.members × IsStrictlyIncreasing t.members
    × AreAscending rest others
