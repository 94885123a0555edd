-- The z lines of the sets of an engine, each by the sets before it.
use Rattle.std.specs.Prelude.{◌≡◌, ◌⊎◌, ℕ, ◌+◌, ◌-◌, ◌<◌, ◌≤◌, true, false, List, [], ◌∷◌, length}
use Rattle.std.specs.Prelude.{map, All}
use Rattle.graph_theory.specs.Duals.{DualSet, HasForm, set_at}
use Rattle.graph_theory.specs.Nested.{AreAscending}
use Rattle.graph_theory.specs.Parts.{holds}
use Rattle.graph_theory.specs.OddSets.{AreEarlier, HaveItemForm, given_at, lies_in}
use Rattle.graph_theory.specs.declared.odd_set.OddSet.{OddSet}
use Rattle.doc_format.specs.declared.part.SetLine.{SetLine}
use Rattle.certificates.specs.Claims.{set_of}
use Rattle.certificates.specs.Certificates.{vertices_first}
use Rattle.certificates.specs.Within.{AreSetLinesWithin}

-- each set has an odd number of at least three members, all different
abbrev pub AreOdd : List DualSet → Type 0
AreOdd sets = (listed : List DualSet) → AreAscending sets listed
    → All (λ s. HasForm s.members) listed

-- the set that a place stands for, from the last one back
abbrev pub set_from_last : List DualSet → ℕ → DualSet
set_from_last sets k = set_at sets (length sets - 1 - k)

-- how many items lines have in all
abbrev pub item_total : List SetLine → ℕ
item_total [] = 0
item_total (z ∷ lines) = length z.items + item_total lines

-- the set at place j holds all members of that at place i, or none
abbrev pub HoldsOrMissesIn : List OddSet → ℕ → ℕ → Type 0
HoldsOrMissesIn sets j i = ((v : ℕ) → lies_in sets i v ≡ true → lies_in sets j v ≡ true)
    ⊎ ((v : ℕ) → lies_in sets j v ≡ true → lies_in sets i v ≡ false)

-- Each set holds or misses each one before it, and no vertex is named by two of them: a vertex is
-- named by the least set that holds it. That no two sets refer to the same one is part of their
-- form.
pub record AreNamedOnce (sets : List OddSet) : Type 0 where
  pub nested : (i j : ℕ) → i < j → j < length sets → HoldsOrMissesIn sets j i
  pub vertices : (i j v : ℕ) → i < j → j < length sets → holds (given_at sets i).vertices v ≡ true
      → holds (given_at sets j).vertices v ≡ false

-- The lines give the sets of vertices 1 to n, the last set first: each line has the dual and the
-- members of its set, and the form that certificates ask for; a vertex or a set is an item at most
-- once.
pub record ListsSets (n : ℕ) (sets : List DualSet) (lines : List SetLine) : Type 0 where
  pub one_each : length lines ≡ length sets
  pub duals : (k : ℕ) → k < length sets
      → (given_at (map set_of lines) k).dual ≡ (set_from_last sets k).dual
  pub members : (k v : ℕ) → k < length sets → 1 ≤ v → v ≤ n
      → lies_in (map set_of lines) k v ≡ holds (set_from_last sets k).members v
  pub earlier : AreEarlier (map set_of lines)
  pub forms : HaveItemForm (map set_of lines)
  pub once : AreNamedOnce (map set_of lines)
  pub sorted : All (λ z. vertices_first z.items ≡ true) lines
  pub within : AreSetLinesWithin n lines
  pub size_limit : item_total lines ≤ n + length lines
  pub unread : All (λ z. z.line ≡ 1) lines
