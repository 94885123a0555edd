-- Lists of numbers with no number twice: their members and their lengths.
use Rattle.graph_theory.proofs.Common.{get_or-set_same, get_or-set_other, ◌≡◌, ℕ, zero, suc, ◌+◌, ◌≤◌, Bool, true, false, ◌&&◌, not, eqb, leb, cond, List, []}
use Rattle.graph_theory.proofs.Common.{◌∷◌, ◌++◌, length, refl, sym, ap, ◌∙◌, arith, ⊎_elim, subst, get_or, set, ◌<◌, nat_eq, AllByRecursion, is_member}
use Rattle.graph_theory.proofs.Common.{length-filter_both, length-from_same_keys, length-le_from_is_member, IsDistinct-tail, IsDistinct-head, nat_tests, eqb-true, or_cases, or_right}
use Rattle.graph_theory.proofs.Common.{both_ways, holds, holds-append}
use Rattle.std.specs.Prelude.{filter}
use Rattle.std.specs.Cmp.{nat_eq_equiv}
use Rattle.std.specs.List.{IsDistinct}

-- what follows from a test either way
pub by_test : {P : Type 0} (t : Bool) → (t ≡ true → P) → (t ≡ false → P) → P
by_test true f g = f refl
by_test false f g = g refl

-- an entry that is written, and the others
pub set_at : {A : Type 0} (xs : List A) (i j : ℕ) (y d : A) → i < length xs → get_or (set xs i y) j d ≡ cond (eqb i j) y (get_or xs j d)
set_at xs i j y d low = grind (arith, nat_tests, get_or-set_same xs i y d low, get_or-set_other xs i j y d)

pub first_in : (x : ℕ) (xs : List ℕ) → holds (x ∷ xs) x ≡ true
first_in x xs = grind (arith, nat_tests)

pub later_in : (x : ℕ) (xs : List ℕ) (v : ℕ) → holds xs v ≡ true → holds (x ∷ xs) v ≡ true
later_in x xs v e = or_right (eqb x v) (holds xs v) e

-- no number stands there twice
abbrev pub AllNew : List ℕ → Type 0
AllNew [] = Unit {0}
AllNew (x ∷ xs) = (holds xs x ≡ false) × AllNew xs

holds_is : (xs : List ℕ) (v : ℕ) → holds xs v ≡ is_member nat_eq xs v
holds_is [] v = refl
holds_is (x ∷ xs) v = grind (arith, nat_tests, holds_is xs v)

absent_all : (x : ℕ) (xs : List ℕ) → holds xs x ≡ false → AllByRecursion (λ y. nat_eq x y ≡ false) xs
absent_all x [] h = tt
absent_all x (y ∷ ys) h = (grind (arith, nat_tests), absent_all x ys (grind (arith, nat_tests)))

all_absent : (x : ℕ) (xs : List ℕ) → AllByRecursion (λ y. nat_eq x y ≡ false) xs → holds xs x ≡ false
all_absent x [] h = refl
all_absent x (y ∷ ys) h = grind (arith, nat_tests, all_absent x ys h.1, h.0)

pub new_from_distinct : (xs : List ℕ) → IsDistinct nat_eq xs → AllNew xs
new_from_distinct [] h = tt
new_from_distinct (x ∷ xs) h = (all_absent x xs (IsDistinct-head nat_eq x xs h), new_from_distinct xs (IsDistinct-tail nat_eq x xs h))

pub distinct_from_new : (xs : List ℕ) → AllNew xs → IsDistinct nat_eq xs
unfolding IsDistinct
distinct_from_new [] h = tt
distinct_from_new (x ∷ xs) h = (absent_all x xs h.0, distinct_from_new xs h.1)

-- what a filter leaves
pub holds-filter : (p : ℕ → Bool) (xs : List ℕ) (v : ℕ) → holds (filter p xs) v ≡ (holds xs v && p v)
holds-filter p [] v = refl
holds-filter p (x ∷ xs) v = grind (arith, nat_tests, holds-filter p xs v)

pub new-filter : (p : ℕ → Bool) (xs : List ℕ) → AllNew xs → AllNew (filter p xs)
new-filter p [] h = h
new-filter p (x ∷ xs) h =
    elim (p x) as (λ b. AllNew (cond b (x ∷ filter p xs) (filter p xs))) [
      | true ↦ (holds-filter p xs x ∙ ap (λ t. t && p x) h.0, new-filter p xs h.1)
      | false ↦ new-filter p xs h.1
    ]

-- a list without the different numbers that it has is so much shorter
pub length-without : (rs xs : List ℕ) → AllNew rs → AllNew xs
    → ((v : ℕ) → holds rs v ≡ true → holds xs v ≡ true)
    → length (filter (λ a. not (holds rs a)) xs) + length rs ≡ length xs
length-without rs xs dr dx sub =
    let inside : length (filter (holds rs) xs) ≡ length rs =
    length-from_same_keys nat_eq_equiv (filter (holds rs) xs) rs (distinct_from_new (filter (holds rs) xs) (new-filter (holds rs) xs dx)) (distinct_from_new rs dr)
    (λ v. sym (holds_is (filter (holds rs) xs) v) ∙ let same = sub v in grind (arith, nat_tests, holds-filter (holds rs) xs v, same) ∙ holds_is rs v) in
    let all : length (filter (holds rs) xs) + length (filter (λ a. not (holds rs a)) xs) ≡ length xs = length-filter_both (holds rs) (λ a. not (holds rs a)) (λ a. refl) xs in
    omega arith
  where
    both : (v : ℕ) → (holds xs v && holds rs v) ≡ holds rs v
    both v = by_test (holds rs v) (λ e. rw (e, sub v e) refl) (λ e. rw e (grind arith))

-- different numbers that a list has are no more than it
pub length-within : (rs xs : List ℕ) → AllNew rs → ((v : ℕ) → holds rs v ≡ true → holds xs v ≡ true) → length rs ≤ length xs
length-within rs xs dr sub = length-le_from_is_member nat_eq_equiv rs xs (distinct_from_new rs dr) (λ v e. sym (holds_is xs v) ∙ sub v (holds_is rs v ∙ e))

-- two lists without a number in common
pub new-append : (xs ys : List ℕ) → AllNew xs → AllNew ys → ((v : ℕ) → holds xs v ≡ true → holds ys v ≡ false) → AllNew (xs ++ ys)
new-append [] ys dx dy apart = dy
new-append (x ∷ xs) ys dx dy apart = (grind (arith, nat_tests, holds-append xs ys x, dx.0, apart x), new-append xs ys dx.1 dy (λ v e. apart v (later_in x xs v e)))

-- the vertices 1 to n are the numbers from 1 to n
abbrev pub vertices : ℕ → List ℕ
vertices zero = []
vertices (suc n) = suc n ∷ vertices n

pub holds-vertices : (n v : ℕ) → holds (vertices n) v ≡ (leb 1 v && leb v n)
holds-vertices zero v = grind (arith, nat_tests)
holds-vertices (suc n) v = rw (holds-vertices n v) (grind (arith, nat_tests))

pub length-vertices : (n : ℕ) → length (vertices n) ≡ n
length-vertices zero = refl
length-vertices (suc n) = omega (arith, length-vertices n)

pub new-vertices : (n : ℕ) → AllNew (vertices n)
new-vertices zero = tt
new-vertices (suc n) = (rw (holds-vertices n (suc n)) (grind (arith, nat_tests)), new-vertices n)

-- what is true of each number of a list, by its tests
pub each_from : (P : ℕ → Type 0) (xs : List ℕ) → ((v : ℕ) → holds xs v ≡ true → P v) → AllByRecursion P xs
each_from P [] f = tt
each_from P (x ∷ xs) f = (f x (first_in x xs), each_from P xs (λ v e. f v (later_in x xs v e)))

pub each_at : (P : ℕ → Type 0) (xs : List ℕ) (v : ℕ) → AllByRecursion P xs → holds xs v ≡ true → P v
each_at P [] v h e = absurd (both_ways false refl e)
each_at P (x ∷ xs) v h e = ⊎_elim (λ s. subst P (eqb-true x v s) h.0) (each_at P xs v h.1) (or_cases (eqb x v) (holds xs v) e)

-- what follows the first number
pub tails : (x y : ℕ) (xs ys : List ℕ) → x ∷ xs ≡ y ∷ ys → xs ≡ ys
tails x y xs ys e = cc

pub distinct_none : IsDistinct nat_eq []
distinct_none = distinct_from_new [] tt
