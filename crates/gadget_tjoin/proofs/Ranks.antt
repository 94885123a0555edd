-- Free places are paired by rank, where their number is even: the first with the second, the third
-- with the fourth, and so on. A place is free where a function is 1, and 0 elsewhere.
use Rattle.graph_theory.proofs.Common.{◌≡◌, ◌⊎◌, ℕ, zero, suc, ◌+◌, ◌*◌, ◌/◌, ◌%◌, ◌<◌, ◌≤◌, Bool, true, false, cond, ltb, eqb, refl, ap, sym}
use Rattle.graph_theory.proofs.Common.{◌∙◌, inl, inr, arith, eq-eqb, ne_eqb, lt-ltb, le-ltb, sum_to, sum_to-same, sum_to-add, one_if-most, eqb-turned, sum_to-longer, one_if-same}
use Rattle.graph_theory.proofs.Common.{nat_tests, sum_to-none, sum_to-only, one_if}

-- one term of at most 1: it is 0 or 1
zero_or_one : (a : ℕ) → a ≤ 1 → (a ≡ 0) ⊎ (a ≡ 1)
zero_or_one zero h = inl refl
zero_or_one (suc a) h = inr (omega arith)

-- a number below n + 1 is below n or is n
below_more : (r n : ℕ) → one_if (ltb r (n + 1)) ≡ one_if (ltb r n) + one_if (eqb n r)
below_more r n = grind (arith, nat_tests)

-- one free place has rank r, where more than r are free
pub once_of_rank : (f : ℕ → ℕ) (r n : ℕ) → ((k : ℕ) → k < n → f k ≤ 1) → sum_to (λ b. f b * one_if (eqb (sum_to f b) r)) n ≡ one_if (ltb r (sum_to f n))
once_of_rank f r zero small = let e = le-ltb r 0 (omega arith) in rw e refl
once_of_rank f r (suc n) small =
    let front = once_of_rank f r n (λ k b. small k (omega arith)) in
    elim (zero_or_one (f n) (small n (omega arith))) [
      | inl off ↦
          let same : sum_to f n + 0 ≡ sum_to f n = omega arith in
          rw (off, same) (omega (arith, front))
      | inr held ↦ rw held (omega (arith, front, below_more r (sum_to f n)))
    ]

half_of : (k h : ℕ) → one_if (eqb (k / 2) h) ≡ one_if (eqb k (2 * h)) + one_if (eqb k (2 * h + 1))
half_of k h = grind (arith, nat_tests)

times-plus : (a b c : ℕ) → a * (b + c) ≡ a * b + a * c
times-plus a b c = grind arith

-- two free places have a rank whose half is h
two_of_half : (f : ℕ → ℕ) (h n : ℕ) → ((k : ℕ) → k < n → f k ≤ 1) → sum_to f n % 2 ≡ 0 → 2 * h < sum_to f n → sum_to (λ b. f b * one_if (eqb (sum_to f b / 2) h)) n ≡ 2
two_of_half f h n small even many =
    let even_one : ℕ → ℕ = λ b. f b * one_if (eqb (sum_to f b) (2 * h)) in
    let odd_one : ℕ → ℕ = λ b. f b * one_if (eqb (sum_to f b) (2 * h + 1)) in
    let parts = sum_to-same (λ b. f b * one_if (eqb (sum_to f b / 2) h)) (λ b. even_one b + odd_one b) n
    (λ b l. ap (λ x. f b * x) (half_of (sum_to f b) h) ∙ times-plus (f b) (one_if (eqb (sum_to f b) (2 * h))) (one_if (eqb (sum_to f b) (2 * h + 1)))) in
    let both = sum_to-add even_one odd_one n in
    let first = once_of_rank f (2 * h) n small in
    let second = once_of_rank f (2 * h + 1) n small in
    let a : one_if (ltb (2 * h) (sum_to f n)) ≡ 1 = ap one_if (lt-ltb (2 * h) (sum_to f n) many) in
    let b : one_if (ltb (2 * h + 1) (sum_to f n)) ≡ 1 = ap one_if (lt-ltb (2 * h + 1) (sum_to f n) (omega arith)) in
    omega (arith, parts, both, first, second, a, b)

-- 1 where a and b are free and partners
abbrev pub partners : (ℕ → ℕ) → ℕ → ℕ → ℕ
partners f a b = f a * (f b * one_if (eqb (sum_to f a / 2) (sum_to f b / 2)))

pub partners-swap : (f : ℕ → ℕ) (a b : ℕ) → partners f a b ≡ partners f b a
partners-swap f a b =
    let s = eqb-turned (sum_to f a / 2) (sum_to f b / 2) in
    let turn : (p q r : ℕ) → p * (q * r) ≡ q * (p * r) = λ p q r. grind arith in
    rw s (turn (f a) (f b) (one_if (eqb (sum_to f b / 2) (sum_to f a / 2))))

-- the sum of a row without its own place
abbrev pub to_others : (ℕ → ℕ → ℕ) → ℕ → ℕ → ℕ
to_others c x n = sum_to (λ b. cond (eqb b x) 0 (c x b)) n

but_one : (t : Bool) (a : ℕ) → a ≡ cond t 0 a + cond t a 0
but_one true a = omega arith
but_one false a = omega arith

cond_zero : (t : Bool) (a : ℕ) → a ≡ 0 → cond t 0 a ≡ 0
cond_zero true a e = refl
cond_zero false a e = e

pub none_if_zero : (a b : ℕ) → a ≡ 0 → a * b ≡ 0
none_if_zero a b e = rw e (omega arith)

pub same_if_one : (a b : ℕ) → a ≡ 1 → a * b ≡ b
same_if_one a b e = rw e (omega arith)

one_partner : (f : ℕ → ℕ) (x n : ℕ) → ((k : ℕ) → k < n → f k ≤ 1) → sum_to f n % 2 ≡ 0 → x < n → f x ≡ 1 → to_others (partners f) x n ≡ 1
one_partner f x n small even b held =
    let h = sum_to f x / 2 in
    let longer : sum_to f x + f x ≤ sum_to f n = sum_to-longer f (suc x) n (omega arith) in
    let two = two_of_half f h n small even (omega (arith, longer, held)) in
    let same = sum_to-same (partners f x) (λ k. f k * one_if (eqb (sum_to f k / 2) h)) n
    (λ k l. let s = eqb-turned h (sum_to f k / 2) in rw s (same_if_one (f x) (f k * one_if (eqb (sum_to f k / 2) h)) held)) in
    let split = sum_to-same (partners f x) (λ k. cond (eqb k x) 0 (partners f x k) + cond (eqb k x) (partners f x k) 0) n (λ k l. but_one (eqb k x) (partners f x k)) in
    let both = sum_to-add (λ k. cond (eqb k x) 0 (partners f x k)) (λ k. cond (eqb k x) (partners f x k) 0) n in
    let own = sum_to-only (λ k. cond (eqb k x) (partners f x k) 0) x n b (λ k l d. let off = ne_eqb k x d in rw off refl) in
    let on : eqb x x ≡ true = eq-eqb x x refl in
    let here : partners f x x ≡ 1 = same_if_one (f x) (f x * one_if (eqb h h)) held ∙ same_if_one (f x) (one_if (eqb h h)) held ∙ one_if-same h h refl in
    let self : cond (eqb x x) (partners f x x) 0 ≡ 1 = rw on here in
    omega (arith, two, same, split, both, own, self)

-- a free place has one partner, and another none
pub partners-each : (f : ℕ → ℕ) (x n : ℕ) → ((k : ℕ) → k < n → f k ≤ 1) → sum_to f n % 2 ≡ 0 → x < n → to_others (partners f) x n ≡ f x
partners-each f x n small even b =
    elim (zero_or_one (f x) (small x b)) [
      | inl off ↦ sum_to-none (λ k. cond (eqb k x) 0 (partners f x k)) n (λ k l. cond_zero (eqb k x) (partners f x k)
          (none_if_zero (f x) (f k * one_if (eqb (sum_to f x / 2) (sum_to f k / 2))) off)) ∙ sym off
      | inr held ↦ one_partner f x n small even b held ∙ sym held
    ]

pub times_small : (c a : ℕ) → c ≤ 1 → c * a ≤ a
times_small c a h = elim (zero_or_one c h) [ inl e ↦ rw e (omega arith) | inr e ↦ rw e (omega arith) ]

pub partners-small : (f : ℕ → ℕ) (a b : ℕ) → f a ≤ 1 → f b ≤ 1 → partners f a b ≤ 1
partners-small f a b small_a small_b =
    let q = one_if (eqb (sum_to f a / 2) (sum_to f b / 2)) in
    omega (arith, times_small (f a) (f b * q) small_a, times_small (f b) q small_b, one_if-most (eqb (sum_to f a / 2) (sum_to f b / 2)))
