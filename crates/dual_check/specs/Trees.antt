-- Tables of numbers that trees of sets are made from, a place for each of the first n sets.
use Rattle.std.specs.Prelude.{◌≡◌, ℕ, ◌+◌, ◌-◌, ◌<◌, ◌≤◌, nat_lt, ℤ, pos, ◌+ℤ◌, Bool, true}
use Rattle.std.specs.Prelude.{List, length, slice_index_or, if◌then◌else◌}
use Rattle.graph_theory.specs.Sums.{sum_to}
use Rattle.graph_theory.specs.Parts.{holds}
use Rattle.graph_theory.specs.declared.odd_set.OddSet.{OddSet}
use Rattle.graph_theory.specs.OddSets.{AreEarlier, given_at}
use Rattle.dual_check.specs.Crossed.{total_at}
use Rattle.dual_check.specs.declared.forest.Place.{Place}
use Rattle.dual_check.specs.Forests.{place_of, no_place}

abbrev pub number_at : List ℕ → ℕ → ℕ
number_at xs k = slice_index_or xs k 0

-- for each set the place of the one that refers to it, and a number of at least n where none does
pub record AreParents (sets : List OddSet) (n : ℕ) (parents : List ℕ) : Type 0 where
  pub size : length parents ≡ n
  pub later : (k : ℕ) → k < n → number_at parents k < n → k < number_at parents k
  pub refers : (k : ℕ) → k < n → number_at parents k < n
      → holds (given_at sets (number_at parents k)).references (k + 1) ≡ true
  pub known : (j r : ℕ) → j < n → holds (given_at sets j).references r ≡ true
      → number_at parents (r - 1) ≡ j

-- the sizes of the first a sets that are referred to, added up
abbrev pub before : List ℕ → List ℕ → ℕ → ℕ
before sizes references a = sum_to (λ b. number_at sizes (number_at references b - 1)) a

-- the vertices of a set and the sizes of the sets that it refers to
abbrev pub whole_size : List ℕ → OddSet → ℕ
whole_size sizes s = length s.vertices + before sizes s.references (length s.references)

-- for each set how many vertices it and the sets inside name
pub record AreSizes (sets : List OddSet) (n : ℕ) (sizes : List ℕ) : Type 0 where
  pub size : length sizes ≡ n
  pub each : (j : ℕ) → j < n → number_at sizes j ≡ whole_size sizes (given_at sets j)

-- the sizes of those of the first i sets that no other refers to, added up
abbrev pub roots_to : ℕ → List ℕ → List ℕ → ℕ → ℕ
roots_to n parents sizes i =
    sum_to (λ k. if nat_lt (number_at parents k) n then 0 else number_at sizes k) i

-- where the sets begin, but for trees of the first i sets: the trees from last to first, and within
-- a set its vertices, then the sets that it refers to
pub record AreBegins (sets : List OddSet) (n : ℕ) (parents sizes : List ℕ) (i : ℕ)
    (begins : List ℕ) : Type 0 where
  pub size : length begins ≡ n
  pub roots : (k : ℕ) → i ≤ k → k < n → n ≤ number_at parents k
      → number_at begins k + roots_to n parents sizes (k + 1) ≡ roots_to n parents sizes n
  pub children : (j a : ℕ) → i ≤ j → j < n → a < length (given_at sets j).references
      → number_at begins (number_at (given_at sets j).references a - 1)
      ≡ number_at begins j + length (given_at sets j).vertices
      + before sizes (given_at sets j).references a

-- how the trees are spread out, but for those of the first i sets
pub record IsSpreadFrom (sets : List OddSet) (n : ℕ) (parents sizes : List ℕ) (i : ℕ)
    (begins : List ℕ) : Type 0 where
  pub size_limit : n ≤ length sets
  pub earlier : AreEarlier sets
  pub parents_are : AreParents sets n parents
  pub sizes_are : AreSizes sets n sizes
  pub begins_are : AreBegins sets n parents sizes i begins

-- how all trees are
abbrev pub IsSpread : List OddSet → ℕ → List ℕ → List ℕ → List ℕ → Type 0
IsSpread sets n parents sizes begins = IsSpreadFrom sets n parents sizes 0 begins

-- for each set where it ends
pub record AreEnds (n : ℕ) (sizes begins ends : List ℕ) : Type 0 where
  pub size : length ends ≡ n
  pub each : (j : ℕ) → j < n → number_at ends j ≡ number_at begins j + number_at sizes j

-- the vertices of each of the first n sets stand where it begins
abbrev pub AreOwn : List OddSet → ℕ → List ℕ → List Place → Type 0
AreOwn sets n begins places = (j t : ℕ) → j < n → t < length (given_at sets j).vertices
    → slice_index_or places (number_at begins j + t) no_place
    ≡ place_of j (number_at (given_at sets j).vertices t)

-- what holds of a set holds of the one that refers to it
abbrev pub IsKept : ℕ → List ℕ → (ℕ → Bool) → Type 0
IsKept n parents t = (k : ℕ) → k < n → number_at parents k < n → t k ≡ true
    → t (number_at parents k) ≡ true

-- y is x or a set around it
pub record IsEnclosing (n : ℕ) (parents : List ℕ) (x y : ℕ) : Type 0 where
  pub order : x ≤ y
  pub inside : y < n
  pub kept : (t : ℕ → Bool) → IsKept n parents t → t x ≡ true → t y ≡ true

-- for each set from place i on one around it
pub record AreJumps (n : ℕ) (parents : List ℕ) (i : ℕ) (jumps : List ℕ) : Type 0 where
  pub size : length jumps ≡ n
  pub each : (x : ℕ) → i ≤ x → x < n → IsEnclosing n parents x (number_at jumps x)

-- what the set around gives
abbrev pub from_parent : ℕ → List ℕ → List ℤ → ℕ → ℤ
from_parent n parents enclosing k =
    if nat_lt (number_at parents k) n then total_at enclosing (number_at parents k) else pos 0

-- for each set its dual and those of all sets around it
pub record AreEnclosing (sets : List OddSet) (n : ℕ) (parents : List ℕ)
    (enclosing : List ℤ) : Type 0 where
  pub size : length enclosing ≡ n
  pub each : (k : ℕ) → k < n
      → total_at enclosing k ≡ ((given_at sets k).dual +ℤ from_parent n parents enclosing k)
