-- Lemmas on the members of lists that stand for sets.
use Rattle.std.proofs.Common.{◌≡◌, ℕ, zero, suc, ◌+◌, ◌<◌, ◌≤◌, ℤ, pos, ◌+ℤ◌, ◌≤ℤ◌, Bool, true, false, cond, ◌||◌, eqb, refl, ap, sym, ◌∙◌}
use Rattle.std.proofs.Common.{subst, inl, inr, arith, List, [], ◌∷◌, ◌++◌, length, get_or, replicate, slice_index, take, sum_by, All, AllPairs, add-one, ◌-◌, map}
use Rattle.std.specs.List.{range_with_len, list_any}
use Rattle.std.specs.List.Sorted.{IsStrictlyIncreasing}
use Rattle.std.proofs.lemmas.List.FromFn.{length-range_with_len, get_or-range_with_len}
use Rattle.std.proofs.lemmas.Int.{ints}
use Rattle.std.proofs.lemmas.Bool.{eq-eqb, ne_eqb, eqb-true, or_cases, or_left, or_right, cases_eq, false≢true, false_from_ne_true}
use Rattle.std.proofs.lemmas.Bool.Decides.{nat_tests}
use Rattle.std.proofs.Math.Bool.{or-false, or_assoc}
use Rattle.std.proofs.lemmas.Grind.{common_steps}
use Rattle.std.proofs.lemmas.List.{get_or-take, get_or-replicate, get_or_past, length-replicate}
use Rattle.std.proofs.lemmas.List.Sums.{sum_by-cons}
use Rattle.std.proofs.lemmas.List.Kept.{AllPairs-from_increasing}
use Rattle.std.proofs.lemmas.List.Elements.{All-tail, All-head}
use Rattle.graph_theory.specs.Sums.{sum_to, int_sum_to}
use Rattle.graph_theory.specs.Parts.{holds}
use Rattle.graph_theory.specs.Walk.{AllDiffer}
use Rattle.graph_theory.proofs.SumLemmas.{sum_to-same, sum_to-zero, sum_to-add, sum_to-at_one, int_sum_to-same, int_sum_to-add, int_sum_to-le, int_sum_to-zero, int_sum_to-at_one}
use Rattle.graph_theory.proofs.SumLemmas.{int_sum_to-at_none}

-- a member stands at some place
pub holds_place : (ms : List ℕ) (v : ℕ) → holds ms v ≡ true → (k : ℕ) × (k < length ms) × (get_or ms k 0 ≡ v)
holds_place [] v h = absurd (cc)
holds_place (m ∷ ms) v h =
    elim (or_cases (eqb m v) (holds ms v) h) [
      | inl e ↦ (0, omega arith, eqb-true m v e)
      | inr e ↦ let r = holds_place ms v e in (suc r.0, omega arith, r.2)
    ]

-- what stands at a place is a member
pub holds_at : (ms : List ℕ) (k d : ℕ) → k < length ms → holds ms (get_or ms k d) ≡ true
holds_at [] k d b = absurd (omega arith)
holds_at (m ∷ ms) zero d b = rw (eq-eqb m m refl) refl
holds_at (m ∷ ms) (suc k) d b = or_right (eqb m (get_or ms k d)) (holds ms (get_or ms k d)) (holds_at ms k d (omega arith))

-- what is true of all that stand in a list is true of each member, and the other way round
pub holds_all : (P : ℕ → Type 0) (ms : List ℕ) (v : ℕ) → All P ms → holds ms v ≡ true → P v
holds_all P ms v all h =
    let place = holds_place ms v h in
    subst P place.2 (all place.0 0 place.1)

pub all_holds : (P : ℕ → Type 0) (ms : List ℕ) → ((v : ℕ) → holds ms v ≡ true → P v) → All P ms
all_holds P ms each = λ k d b. each (get_or ms k d) (holds_at ms k d b)

-- a first member
pub holds_first : (ms : List ℕ) → 0 < length ms → holds ms (slice_index ms 0) ≡ true
holds_first [] h = absurd (omega arith)
holds_first (m ∷ ms) h = rw (eq-eqb m m refl) refl

-- a number is tested against another from either side
pub eqb-turned : (a b : ℕ) → eqb a b ≡ eqb b a
eqb-turned a b = grind (arith, nat_tests)

-- one member more

pub holds-append : (xs ys : List ℕ) (w : ℕ) → holds (xs ++ ys) w ≡ (holds xs w || holds ys w)
holds-append [] ys w = refl
holds-append (x ∷ xs) ys w = ap (λ b. eqb x w || b) (holds-append xs ys w) ∙ sym (or_assoc (eqb x w) (holds xs w) (holds ys w))

pub holds-push : (xs : List ℕ) (x w : ℕ) → holds (xs ++ x ∷ []) w ≡ (holds xs w || eqb x w)
holds-push xs x w = holds-append xs (x ∷ []) w ∙ ap (λ b. holds xs w || b) (or-false (eqb x w))

take-suc : (xs : List ℕ) (i w : ℕ) → i < length xs → holds (take (suc i) xs) w ≡ (holds (take i xs) w || eqb (get_or xs i 0) w)
take-suc [] i w b = absurd (omega arith)
take-suc (x ∷ xs) zero w b = or-false (eqb x w)
take-suc (x ∷ xs) (suc i) w b = ap (λ t. eqb x w || t) (take-suc xs i w (omega arith)) ∙ sym (or_assoc (eqb x w) (holds (take i xs) w) (eqb (get_or xs i 0) w))

pub holds-take : (xs : List ℕ) (i w : ℕ) → i < length xs → holds (take (i + 1) xs) w ≡ (holds (take i xs) w || eqb (get_or xs i 0) w)
holds-take xs i w b = rw add-one (take-suc xs i w b)

-- a member that is taken is one
pub holds-of_take : (xs : List ℕ) (i w : ℕ) → holds (take i xs) w ≡ true → holds xs w ≡ true
holds-of_take xs i w h =
    let p = holds_place (take i xs) w h in
    let short : (p.0 < i) × (p.0 < length xs) = grind (arith, p.1, common_steps) in
    let here : get_or (take i xs) p.0 0 ≡ get_or xs p.0 0 = get_or-take i xs p.0 0 short.0 in
    subst (λ (v : ℕ). holds xs v ≡ true) (sym here ∙ p.2) (holds_at xs p.0 0 short.1)

-- numbers that all differ

pub ascending-differ : (xs : List ℕ) → IsStrictlyIncreasing xs → AllDiffer xs
ascending-differ xs up i j a b same =
    let less : get_or xs i 0 < get_or xs j 0 = AllPairs-from_increasing xs up i j 0 a b in
    omega (arith, less, same)

pub differ-tail : (x : ℕ) (xs : List ℕ) → AllDiffer (x ∷ xs) → AllDiffer xs
differ-tail x xs d = λ i j a b. d (suc i) (suc j) (omega arith) (omega arith)

pub differ-head : (x : ℕ) (xs : List ℕ) → AllDiffer (x ∷ xs) → holds xs x ≡ false
differ-head x xs d = false_from_ne_true (holds xs x) (λ h. let r = holds_place xs x h in d 0 (suc r.0) (omega arith) (let b = r.1 in omega arith) (sym r.2))

pub differ-cons : (x : ℕ) (xs : List ℕ) → holds xs x ≡ false → AllDiffer xs → AllDiffer (x ∷ xs)
differ-cons x xs new d i zero a b = absurd (omega arith)
differ-cons x xs new d (suc i) (suc j) a b = d i j (omega arith) (omega arith)
differ-cons x xs new d zero (suc j) a b = λ same. false≢true (sym new ∙ ap (holds xs) same ∙ holds_at xs j 0 (omega arith))

-- ascending lists

-- a later member is greater than the first
pub first_less : (m : ℕ) (ms : List ℕ) (v : ℕ) → AllPairs (λ x y. x < y) (m ∷ ms) → holds ms v ≡ true → m < v
first_less m ms v up h =
    let r = holds_place ms v h in
    let above : m < get_or ms r.0 0 = up 0 (suc r.0) 0 (omega arith) (omega arith) in
    let here : get_or ms r.0 0 ≡ v = r.2 in
    omega arith

pub least_first : (ms : List ℕ) (v : ℕ) → IsStrictlyIncreasing ms → holds ms v ≡ true → slice_index ms 0 ≤ v
least_first ms v up h =
    let place = holds_place ms v h in
    let at : get_or ms place.0 0 ≡ v = place.2 in
    elim (cases_eq place.0 0) [
      | inl e ↦ let same : get_or ms place.0 0 ≡ get_or ms 0 0 = ap (λ i. get_or ms i 0) e in omega arith
      | inr d ↦ let below : get_or ms 0 0 < get_or ms place.0 0 = AllPairs-from_increasing ms up 0 place.0 0 (omega arith) place.1 in omega arith
    ]

pub pairs_tail : (m : ℕ) (ms : List ℕ) → AllPairs (λ x y. x < y) (m ∷ ms) → AllPairs (λ x y. x < y) ms
pairs_tail m ms up = λ i j d a b. up (suc i) (suc j) d (omega arith) (omega arith)

pub increasing-push : (xs : List ℕ) (y : ℕ) → IsStrictlyIncreasing xs → All (λ x. x < y) xs → IsStrictlyIncreasing (xs ++ y ∷ [])
increasing-push xs y up below = grind (arith, common_steps)

-- none stands there twice
pub not_before : (xs : List ℕ) (i : ℕ) → IsStrictlyIncreasing xs → i < length xs → holds (take i xs) (get_or xs i 0) ≡ false
not_before xs i up b = decide_before (holds (take i xs) (get_or xs i 0)) refl
  where
    decide_before : (t : Bool) → holds (take i xs) (get_or xs i 0) ≡ t → holds (take i xs) (get_or xs i 0) ≡ false
    decide_before false h = h
    decide_before true h =
        let p = holds_place (take i xs) (get_or xs i 0) h in
        let short : p.0 < i = grind (arith, p.1, common_steps) in
        let here : get_or (take i xs) p.0 0 ≡ get_or xs p.0 0 = grind (arith, common_steps) in
        let less : get_or xs p.0 0 < get_or xs i 0 = AllPairs-from_increasing xs up p.0 i 0 short b in
        absurd (omega (arith, less, here, p.2))

-- sums over the members

-- a term where one of two tests that exclude each other passes
either_test : (p q : Bool) (a : ℤ) → (p ≡ true → q ≡ true → ⊥) → cond (p || q) a (pos 0) ≡ cond p a (pos 0) +ℤ cond q a (pos 0)
either_test true true a h = absurd (h refl refl)
either_test true false a h = omega (arith, ints)
either_test false true a h = omega (arith, ints)
either_test false false a h = omega (arith, ints)

-- where they all differ each member is counted once
pub differ_counted : (n : ℕ) (ms : List ℕ) → AllDiffer ms → All (λ m. (1 ≤ m) × (m ≤ n)) ms → int_sum_to (λ i. cond (holds ms (i + 1)) (pos 1) (pos 0)) n ≡ pos (length ms)
differ_counted n [] differ within = int_sum_to-zero n
differ_counted n (m ∷ ms) differ within =
    let parts = int_sum_to-same (λ i. cond (holds (m ∷ ms) (i + 1)) (pos 1) (pos 0)) (λ i. cond (eqb m (i + 1)) (pos 1) (pos 0) +ℤ cond (holds ms (i + 1)) (pos 1) (pos 0)) n
    (λ i b. either_test (eqb m (i + 1)) (holds ms (i + 1)) (pos 1)
    (λ p q. false≢true (sym (differ-head m ms differ) ∙ ap (holds ms) (eqb-true m (i + 1) p) ∙ q))) in
    let both = int_sum_to-add (λ i. cond (eqb m (i + 1)) (pos 1) (pos 0)) (λ i. cond (holds ms (i + 1)) (pos 1) (pos 0)) n in
    let here : (1 ≤ m) × (m ≤ n) = All-head (λ m. (1 ≤ m) × (m ≤ n)) m ms within in
    let first = int_sum_to-at_one (λ _. pos 1) m n here.0 here.1 in
    omega (arith, ints, parts, both, first, differ_counted n ms (differ-tail m ms differ) (All-tail (λ m. (1 ≤ m) × (m ≤ n)) m ms within))

-- .. and so it is in an ascending list
pub members_counted : (n : ℕ) (ms : List ℕ) → IsStrictlyIncreasing ms → All (λ m. (1 ≤ m) × (m ≤ n)) ms → int_sum_to (λ i. cond (holds ms (i + 1)) (pos 1) (pos 0)) n ≡ pos (length ms)
members_counted n ms up within = differ_counted n ms (ascending-differ ms up) within

-- a sum over the members of an ascending list, by numbers or along the list

pub either_term : (p q : Bool) (a : ℕ) → (p ≡ true → q ≡ true → ⊥) → cond (p || q) a 0 ≡ cond p a 0 + cond q a 0
either_term true true a h = absurd (h refl refl)
either_term true false a h = omega arith
either_term false true a h = omega arith
either_term false false a h = omega arith

sum_by_pairs : (f : ℕ → ℕ) (n : ℕ) (ms : List ℕ) → AllPairs (λ x y. x < y) ms → All (λ m. (1 ≤ m) × (m ≤ n)) ms → sum_to (λ i. cond (holds ms (i + 1)) (f (i + 1)) 0) n ≡ sum_by f ms
sum_by_pairs f n [] up within = sum_to-zero n
sum_by_pairs f n (m ∷ ms) up within =
    let parts = sum_to-same (λ i. cond (holds (m ∷ ms) (i + 1)) (f (i + 1)) 0) (λ i. cond (eqb m (i + 1)) (f (i + 1)) 0 + cond (holds ms (i + 1)) (f (i + 1)) 0) n
    (λ i b. either_term (eqb m (i + 1)) (holds ms (i + 1)) (f (i + 1)) (λ p q. let same = eqb-true m (i + 1) p in let above = first_less m ms (i + 1) up q in omega arith)) in
    let both = sum_to-add (λ i. cond (eqb m (i + 1)) (f (i + 1)) 0) (λ i. cond (holds ms (i + 1)) (f (i + 1)) 0) n in
    let here : (1 ≤ m) × (m ≤ n) = All-head (λ m. (1 ≤ m) × (m ≤ n)) m ms within in
    let first = sum_to-at_one f m n here.0 here.1 in
    let whole = sum_by-cons f m ms in
    omega (arith, parts, both, first, sum_by_pairs f n ms (pairs_tail m ms up) (All-tail (λ m. (1 ≤ m) × (m ≤ n)) m ms within), whole)

pub members_sum : (f : ℕ → ℕ) (n : ℕ) (ms : List ℕ) → IsStrictlyIncreasing ms → All (λ m. (1 ≤ m) × (m ≤ n)) ms → sum_to (λ i. cond (holds ms (i + 1)) (f (i + 1)) 0) n ≡ sum_by f ms
members_sum f n ms up within = sum_by_pairs f n ms (AllPairs-from_increasing ms up) within

-- .. and of any list at most once for each place
one_at_most : (u n : ℕ) → int_sum_to (λ i. cond (eqb u (i + 1)) (pos 1) (pos 0)) n ≤ℤ pos 1
one_at_most u zero = omega (arith, ints)
one_at_most u (suc n) =
    elim (cases_eq u (n + 1)) [
      | inl e ↦
          let front = int_sum_to-at_none (λ _. pos 1) u n (omega arith) in
          let on : eqb u (n + 1) ≡ true = eq-eqb u (n + 1) e in
          rw on (omega (arith, ints, front))
      | inr d ↦
          let off : eqb u (n + 1) ≡ false = ne_eqb u (n + 1) d in
          rw off (omega (arith, ints, one_at_most u n))
    ]

either_at_most : (p q : Bool) → cond (p || q) (pos 1) (pos 0) ≤ℤ (cond p (pos 1) (pos 0) +ℤ cond q (pos 1) (pos 0))
either_at_most true true = omega (arith, ints)
either_at_most true false = omega (arith, ints)
either_at_most false true = omega (arith, ints)
either_at_most false false = omega (arith, ints)

pub members_at_most : (n : ℕ) (ms : List ℕ) → int_sum_to (λ i. cond (holds ms (i + 1)) (pos 1) (pos 0)) n ≤ℤ pos (length ms)
members_at_most n [] = omega (arith, ints, int_sum_to-zero n)
members_at_most n (m ∷ ms) =
    let parts = int_sum_to-le (λ i. cond (holds (m ∷ ms) (i + 1)) (pos 1) (pos 0)) (λ i. cond (eqb m (i + 1)) (pos 1) (pos 0) +ℤ cond (holds ms (i + 1)) (pos 1) (pos 0)) n
    (λ i b. either_at_most (eqb m (i + 1)) (holds ms (i + 1))) in
    omega (arith, ints, parts, int_sum_to-add (λ i. cond (eqb m (i + 1)) (pos 1) (pos 0)) (λ i. cond (holds ms (i + 1)) (pos 1) (pos 0)) n, one_at_most m n, members_at_most n ms)

pub same_tests : (a b : Bool) → (a ≡ true → b ≡ true) → (b ≡ true → a ≡ true) → a ≡ b
same_tests a b f h = grind arith

-- lists of different vertices with the same members have the same length
pub same_length-differ : (n : ℕ) (xs ys : List ℕ) → AllDiffer xs → AllDiffer ys → All (λ m. (1 ≤ m) × (m ≤ n)) xs → All (λ m. (1 ≤ m) × (m ≤ n)) ys
    → ((v : ℕ) → holds xs v
    ≡ true → holds ys v ≡ true) → ((v : ℕ) → holds ys v ≡ true → holds xs v ≡ true) → length xs ≡ length ys
same_length-differ n xs ys differ_x differ_y within_x within_y to from =
    let same = int_sum_to-same (λ i. cond (holds xs (i + 1)) (pos 1) (pos 0)) (λ i. cond (holds ys (i + 1)) (pos 1) (pos 0)) n
    (λ i b. ap (λ (t : Bool). cond t (pos 1) (pos 0)) (same_tests (holds xs (i + 1)) (holds ys (i + 1)) (to (i + 1)) (from (i + 1)))) in
    omega (arith, ints, differ_counted n xs differ_x within_x, differ_counted n ys differ_y within_y, same)

pub same_length : (n : ℕ) (xs ys : List ℕ) → IsStrictlyIncreasing xs → IsStrictlyIncreasing ys → All (λ m. (1 ≤ m) × (m ≤ n)) xs → All (λ m. (1 ≤ m) × (m ≤ n)) ys → ((v : ℕ) → holds xs v
    ≡ true → holds ys v ≡ true) → ((v : ℕ) → holds ys v ≡ true → holds xs v ≡ true) → length xs ≡ length ys
same_length n xs ys up_x up_y = same_length-differ n xs ys (ascending-differ xs up_x) (ascending-differ ys up_y)

-- ascending lists with the same members are equal

first_equal : (x y : ℕ) (xs ys : List ℕ) → AllPairs (λ x y. x < y) (x ∷ xs) → AllPairs (λ x y. x < y) (y ∷ ys) → holds (y ∷ ys) x ≡ true → holds (x ∷ xs) y ≡ true → x ≡ y
first_equal x y xs ys up_x up_y hx hy =
    elim (or_cases (eqb y x) (holds ys x) hx) [
      | inl e ↦ sym (eqb-true y x e)
      | inr above ↦
          elim (or_cases (eqb x y) (holds xs y) hy) [
            | inl e ↦ eqb-true x y e
            | inr below ↦ absurd (let a = first_less y ys x up_y above in let b = first_less x xs y up_x below in omega arith)
          ]
    ]

-- a later member of the one stands late in the other
later : (x y : ℕ) (xs ys : List ℕ) (v : ℕ) → x ≡ y → AllPairs (λ x y. x < y) (x ∷ xs) → holds xs v ≡ true → holds (y ∷ ys) v ≡ true → holds ys v ≡ true
later x y xs ys v same up h there =
    elim (or_cases (eqb y v) (holds ys v) there) [
      | inl e ↦ absurd (let here = eqb-true y v e in let above = first_less x xs v up h in omega arith)
      | inr r ↦ r
    ]

same_by_pairs : (xs ys : List ℕ) → AllPairs (λ x y. x < y) xs → AllPairs (λ x y. x < y) ys → ((v : ℕ) → holds xs v ≡ true → holds ys v ≡ true) → ((v : ℕ) → holds ys v ≡ true → holds xs v
    ≡ true) → xs ≡ ys
same_by_pairs [] [] up_x up_y to from = refl
same_by_pairs [] (y ∷ ys) up_x up_y to from = absurd (false≢true (from y (holds_first (y ∷ ys) (omega arith))))
same_by_pairs (x ∷ xs) [] up_x up_y to from = absurd (false≢true (to x (holds_first (x ∷ xs) (omega arith))))
same_by_pairs (x ∷ xs) (y ∷ ys) up_x up_y to from =
    let same : x ≡ y = first_equal x y xs ys up_x up_y (to x (holds_first (x ∷ xs) (omega arith))) (from y (holds_first (y ∷ ys) (omega arith))) in
    let tails : xs ≡ ys = same_by_pairs xs ys (pairs_tail x xs up_x) (pairs_tail y ys up_y) (λ v h. later x y xs ys v same up_x h (to v (or_right (eqb x v) (holds xs v) h)))
    (λ v h. later y x ys xs v (sym same) up_y h (from v (or_right (eqb y v) (holds ys v) h))) in
    ap (λ z. z ∷ xs) same ∙ ap (λ zs. y ∷ zs) tails

pub same_list : (xs ys : List ℕ) → IsStrictlyIncreasing xs → IsStrictlyIncreasing ys → ((v : ℕ) → holds xs v ≡ true → holds ys v ≡ true) → ((v : ℕ) → holds ys v ≡ true → holds xs v ≡ true)
    → xs ≡ ys
same_list xs ys up_x up_y to from = same_by_pairs xs ys (AllPairs-from_increasing xs up_x) (AllPairs-from_increasing ys up_y) to from

-- the vertices 1 to n
pub range-ascending : (n : ℕ) → IsStrictlyIncreasing (range_with_len 1 n)
range-ascending n k h =
    let long : length (range_with_len 1 n) ≡ n = length-range_with_len 1 n in
    let here : get_or (range_with_len 1 n) k 0 ≡ 1 + k = get_or-range_with_len 1 n k 0 (omega arith) in
    let next : get_or (range_with_len 1 n) (k + 1) 0 ≡ 1 + (k + 1) = get_or-range_with_len 1 n (k + 1) 0 (omega arith) in
    omega arith

-- a list with a member isn't empty
pub some-member : (xs : List ℕ) (x : ℕ) → holds xs x ≡ true → 1 ≤ length xs
some-member [] x h = absurd (false≢true h)
some-member (y ∷ xs) x h = omega arith

pub only-member : (x y : ℕ) → holds (x ∷ []) y ≡ true → x ≡ y
only-member x y h = elim (or_cases (eqb x y) false h) [ inl e ↦ eqb-true x y e | inr none ↦ absurd (false≢true none) ]

-- a member that passes is one that some test finds
pub any-member : (p : ℕ → Bool) (xs : List ℕ) (x : ℕ) → holds xs x ≡ true → p x ≡ true → list_any p xs ≡ true
any-member p [] x h passes = absurd (false≢true h)
any-member p (y ∷ xs) x h passes =
    elim (or_cases (eqb y x) (holds xs x) h) [
      | inl e ↦ or_left (p y) (list_any p xs) (ap p (eqb-true y x e) ∙ passes)
      | inr later ↦ or_right (p y) (list_any p xs) (any-member p xs x later passes)
    ]

-- the members of a list that is mapped
pub mapped-member : (f : ℕ → ℕ) (xs : List ℕ) (x : ℕ) → holds xs x ≡ true → holds (map f xs) (f x) ≡ true
mapped-member f [] x h = absurd (false≢true h)
mapped-member f (y ∷ xs) x h =
    elim (or_cases (eqb y x) (holds xs x) h) [
      | inl e ↦ or_left (eqb (f y) (f x)) (holds (map f xs) (f x)) (eq-eqb (f y) (f x) (ap f (eqb-true y x e)))
      | inr later ↦ or_right (eqb (f y) (f x)) (holds (map f xs) (f x)) (mapped-member f xs x later)
    ]

pub member-mapped : (f : ℕ → ℕ) (xs : List ℕ) (y : ℕ) → holds (map f xs) y ≡ true → (x : ℕ) × (holds xs x ≡ true) × (f x ≡ y)
member-mapped f [] y h = absurd (false≢true h)
member-mapped f (x ∷ xs) y h =
    elim (or_cases (eqb (f x) y) (holds (map f xs) y) h) [
      | inl e ↦ (x, or_left (eqb x x) (holds xs x) (eq-eqb x x refl), eqb-true (f x) y e)
      | inr later ↦ let w = member-mapped f xs y later in (w.0, or_right (eqb x w.0) (holds xs w.0) w.1, w.2)
    ]

-- the numbers from 1 on
pub range-has : (n v : ℕ) → 1 ≤ v → v ≤ n → holds (range_with_len 1 n) v ≡ true
range-has n v low high =
    let long : length (range_with_len 1 n) ≡ n = length-range_with_len 1 n in
    let here = get_or-range_with_len 1 n (v - 1) 0 (omega (arith, low, high)) in
    let back : 1 + (v - 1) ≡ v = omega (arith, low) in
    subst (λ (w : ℕ). holds (range_with_len 1 n) w ≡ true) (here ∙ back) (holds_at (range_with_len 1 n) (v - 1) 0 (omega (arith, low, high, long)))

pub range-only : (n v : ℕ) → holds (range_with_len 1 n) v ≡ true → (1 ≤ v) × (v ≤ n)
range-only n v h =
    let long : length (range_with_len 1 n) ≡ n = length-range_with_len 1 n in
    let place = holds_place (range_with_len 1 n) v h in
    let here = get_or-range_with_len 1 n place.0 0 (omega (arith, place.1, long)) in
    (omega (arith, here, place.2), omega (arith, here, place.2, place.1, long))

-- what stands throughout
pub everywhere : {A : Type 0} (value : A) (n i : ℕ) → get_or (replicate n value) i value ≡ value
everywhere value n i = grind (arith, get_or-replicate n i value value, get_or_past (replicate n value) i value, length-replicate n value)
