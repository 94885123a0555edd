-- How the sets of a forest lie around one another.
use Rattle.std.specs.Prelude.{◌≡◌, ℕ, ◌+◌, ◌-◌, ◌<◌, ◌≤◌, nat_le, nat_lt, ℤ, pos, true, ◌&&◌, List}
use Rattle.std.specs.Prelude.{length}
use Rattle.std.specs.Prelude.{slice_index_or, if◌then◌else◌, Option, None, Some}
use Rattle.graph_theory.specs.Sums.{sum_to, int_sum_to}
use Rattle.graph_theory.specs.declared.odd_set.OddSet.{OddSet}
use Rattle.graph_theory.specs.OddSets.{given_at}
use Rattle.dual_check.specs.Crossed.{total_at}
use Rattle.dual_check.specs.declared.forest.Forest.{Forest}
use Rattle.dual_check.specs.Forests.{IsForest, IsInnermost, spans, begin_of, end_of, no_place}
use Rattle.dual_check.specs.Trees.{number_at, AreParents}

-- the set that names the vertex at position q
abbrev pub set_of : Forest → ℕ → ℕ
set_of f q = (slice_index_or f.places.items q no_place).set

-- y spans what x spans, and isn't before it
pub record Surrounds (n : ℕ) (f : Forest) (x y : ℕ) : Type 0 where
  pub order : x ≤ y
  pub inside : y < n
  pub spans_all : (q : ℕ) → spans f x q ≡ true → spans f y q ≡ true

-- the duals of those of the first n sets that span q, from place x on, added up
abbrev pub dual_from : List OddSet → ℕ → Forest → ℕ → ℕ → ℤ
dual_from sets n f x q =
    int_sum_to (λ j. if nat_le x j && spans f j q then (given_at sets j).dual else pos 0) n

-- how many positions there are in the trees of the first i sets
abbrev pub trees_to : Forest → ℕ → ℕ → ℕ
trees_to f n i = sum_to (λ k. if nat_lt (number_at f.parents.items k) n then 0
    else end_of f k - begin_of f k) i

-- where the trees of the later sets end, which come first
abbrev pub passed : Forest → ℕ → ℕ → ℕ
passed f n i = length f.places.items - trees_to f n i

-- Each vertex is named by the innermost set that spans it. Of two sets that share a position the
-- later one surrounds the other, and the parent is the first that does. The trees follow one
-- another, that of the last set first, and each is the stretch of the set that none refers to.
pub record HasLinks (sets : List OddSet) (n : ℕ) (f : Forest) : Type 0 where
  pub size_limit : n ≤ length sets
  pub parents_are : AreParents sets n f.parents.items
  pub jumps : length f.jumps.items ≡ n
  pub enclosing : length f.enclosing.items ≡ n
  pub named : (q : ℕ) → q < length f.places.items → IsInnermost n f q q (set_of f q)
  pub surrounds : (i j p q : ℕ) → i ≤ j → j < n → spans f i q ≡ true → spans f j q ≡ true
      → spans f i p ≡ true → spans f j p ≡ true
  pub parent : (i : ℕ) → i < n → number_at f.parents.items i < n
      → Surrounds n f i (number_at f.parents.items i)
  pub next : (i j q : ℕ) → i < j → j < n → spans f i q ≡ true → spans f j q ≡ true
      → (number_at f.parents.items i < n) × (number_at f.parents.items i ≤ j)
  pub placed : (i : ℕ) → i < n → n ≤ number_at f.parents.items i
      → (begin_of f i ≡ passed f n (i + 1)) × (end_of f i ≡ passed f n i)
  pub none_passed : passed f n n ≡ 0
  pub jump : (i : ℕ) → i < n → Surrounds n f i (number_at f.jumps.items i)
  pub summed : (i q : ℕ) → i < n → spans f i q ≡ true
      → total_at f.enclosing.items i ≡ dual_from sets n f i q

-- a forest of the first n sets whose links are right
pub record IsGrown (sets : List OddSet) (n : ℕ) (f : Forest) : Type 0 where
  pub forest : IsForest sets n f
  pub links : HasLinks sets n f

-- the way up from x, past sets that begin after position p: to y, or to none if no set surrounds x
pub record IsWay (n : ℕ) (f : Forest) (p x y : ℕ) : Type 0 where
  pub order : x < y
  pub inside : y < n
  pub spans_all : (q : ℕ) → spans f x q ≡ true → spans f y q ≡ true
  pub past : (j q : ℕ) → x < j → j < y → spans f x q ≡ true → spans f j q ≡ true → p < begin_of f j

abbrev pub MayBeWay : ℕ → Forest → ℕ → ℕ → Option ℕ → Type 0
MayBeWay n f p x None = (j q : ℕ) → j < n → spans f x q ≡ true → spans f j q ≡ true → j ≤ x
MayBeWay n f p x (Some y) = IsWay n f p x y
