-- How many numbers pass a test, and how many sets in all have.
use Rattle.graph_theory.proofs.Common.{◌≡◌, ℕ, zero, suc, ◌+◌, ◌<◌, ◌≤◌, true, false, Bool, cond, List, [], ◌∷◌, ◌++◌, length, All, refl, ap, sym, ◌∙◌}
use Rattle.graph_theory.proofs.Common.{inl, inr, arith, IsStrictlyIncreasing, cases_Bool, cond-true, cond-false, false_from_ne_true, length_push, sum_to, holds, sum_to-same, sum_to-zero}
use Rattle.graph_theory.proofs.Common.{sum_to-swap, sum_to-most}
use Rattle.graph_theory.proofs.Passing.{passing, members-passing}

-- a test as a number
abbrev pub one_if : Bool → ℕ
one_if t = cond t 1 0

-- how many of the numbers from 1 to n pass a test
abbrev pub count_to : (ℕ → Bool) → ℕ → ℕ
count_to p n = sum_to (λ i. one_if (p (i + 1))) n

by_cases : (t : Bool) (xs : List ℕ) (x : ℕ) → length (cond t (xs ++ x ∷ []) xs) ≡ length xs + one_if t
by_cases true xs x = length_push xs x
by_cases false xs x = omega arith

pub count-passing : (p : ℕ → Bool) (n : ℕ) → length (passing p n) ≡ count_to p n
count-passing p zero = refl
count-passing p (suc n) =
    let one : one_if (p (suc n)) ≡ one_if (p (n + 1)) = ap (λ (v : ℕ). one_if (p v)) (let e : suc n ≡ n + 1 = omega arith in e) in
    omega (arith, by_cases (p (suc n)) (passing p n) (suc n), count-passing p n, one)

-- of an ascending list each number is counted once
pub count-ascending : (n : ℕ) (xs : List ℕ) → IsStrictlyIncreasing xs → All (λ v. (1 ≤ v) × (v ≤ n)) xs → length xs ≡ count_to (holds xs) n
count-ascending n xs up within =
    ap (λ (ys : List ℕ). length ys) (sym (members-passing n xs (record { ascending = up; in_range = within }))) ∙ count-passing (holds xs) n

-- tests of which at most one passes
pub once : (f : ℕ → Bool) (n : ℕ) → ((i j : ℕ) → i < j → j < n → f i ≡ true → f j ≡ true → ⊥) → sum_to (λ k. one_if (f k)) n ≤ 1
once f zero apart = omega arith
once f (suc n) apart =
    elim (cases_Bool (f n)) [
      | inl t ↦
          let none : sum_to (λ k. one_if (f k)) n ≡ sum_to (λ _. 0) n =
          sum_to-same (λ k. one_if (f k)) (λ _. 0) n (λ k b. cond-false (f k) 1 0 (false_from_ne_true (f k) (λ h. apart k n b (omega arith) h t))) in
          let last : one_if (f n) ≡ 1 = cond-true (f n) 1 0 t in
          omega (arith, none, sum_to-zero n, last)
      | inr t ↦
          let last : one_if (f n) ≡ 0 = cond-false (f n) 1 0 t in
          omega (arith, once f n (λ i j a b. apart i j a (omega (arith, b))), last)
    ]

-- ascending lists of numbers from 1 to m with no number in common have at most m in all
pub few-in_all : (F : ℕ → List ℕ) (n m : ℕ) → ((k : ℕ) → k < n → IsStrictlyIncreasing (F k)) → ((k : ℕ) → k < n → All (λ v. (1 ≤ v) × (v ≤ m)) (F k)) →
    ((i j v : ℕ) → i < j → j < n → holds (F i) v ≡ true → holds (F j) v ≡ true → ⊥) → sum_to (λ k. length (F k)) n ≤ m
few-in_all F n m up within apart =
    let counted = sum_to-same (λ k. length (F k)) (λ k. sum_to (λ i. one_if (holds (F k) (i + 1))) m) n (λ k b. count-ascending m (F k) (up k b) (within k b)) in
    let turned = sum_to-swap (λ k i. one_if (holds (F k) (i + 1))) n m in
    let most = sum_to-most (λ i. sum_to (λ k. one_if (holds (F k) (i + 1))) n) 1 m (λ i b. once (λ k. holds (F k) (i + 1)) n (λ a c less low h t. apart a c (i + 1) less low h t)) in
    omega (arith, counted, turned, most)
