-- Sums whose terms differ at one place, and how many levels part two heights.
use Rattle.mb_problem.proofs.Common.{◌≡◌, ℕ, zero, suc, ◌+◌, ◌<◌, ◌≤◌, min, Bool, true, false, not, cond, ltb, refl, ap, sym, ◌∙◌, inl, inr, arith, cases_eq, cases_lt, false≢true}
use Rattle.mb_problem.proofs.Common.{lt-ltb, le-ltb, ltb-true, sum_to, sum_to-le, sum_to-same, sum_to-ones}
use Rattle.graph_theory.proofs.BlockSums.{sum_to-both}

-- no term is greater, but for one
pub sum_to-but_one : (f g : ℕ → ℕ) (u n : ℕ) → u < n → ((k : ℕ) → k < n → (k ≡ u → ⊥) → f k ≤ g k) → sum_to f n + g u ≤ sum_to g n + f u
sum_to-but_one f g u zero h same = absurd (omega arith)
sum_to-but_one f g u (suc n) h same =
    elim (cases_eq u n) [
      | inl e ↦
          let front : sum_to f n ≤ sum_to g n = sum_to-le f g n (λ k b. same k (omega arith) (λ d. omega arith)) in
          let at_f : f u ≡ f n = ap f e in
          let at_g : g u ≡ g n = ap g e in
          omega arith
      | inr d ↦
          let front : sum_to f n + g u ≤ sum_to g n + f u = sum_to-but_one f g u n (omega arith) (λ k b other. same k (omega arith) other) in
          let last : f n ≤ g n = same n (omega arith) (λ e. d (sym e)) in
          omega arith
    ]

-- one of two tests passes, and the other doesn't
abbrev pub one_of : Bool → Bool → Bool
one_of p q = cond p (not q) q

-- exactly one of two heights lies above level s
abbrev pub parts : ℕ → ℕ → ℕ → Bool
parts a b s = one_of (ltb s a) (ltb s b)

-- how many of the first n levels part two heights
abbrev pub parted : ℕ → ℕ → ℕ → ℕ
parted a b n = sum_to (λ s. cond (parts a b s) 1 0) n

-- a height is the number of the levels below it
levels-below : (a n : ℕ) → a ≤ n → sum_to (λ s. cond (ltb s a) 1 0) n ≡ a
levels-below a zero h = omega arith
levels-below a (suc n) h =
    elim (cases_lt n a) [
      | inl above ↦ sum_to-ones (λ s. cond (ltb s a) 1 0) (suc n) (λ s b. let on : ltb s a ≡ true = lt-ltb s a (omega arith) in rw on refl) ∙ (let e : suc n ≡ a = omega arith in e)
      | inr below ↦
          let off : ltb n a ≡ false = le-ltb n a below in
          let front : sum_to (λ s. cond (ltb s a) 1 0) n ≡ a = levels-below a n below in
          rw off (omega arith)
    ]

upper-term : (p q : Bool) → (p ≡ true → q ≡ true) → cond q 1 0 ≡ cond (one_of p q) 1 0 + cond p 1 0
upper-term true true h = refl
upper-term true false h = absurd (false≢true (h refl))
upper-term false true h = refl
upper-term false false h = refl

parted-up : (a b n : ℕ) → a ≤ b → b ≤ n → parted a b n + a ≡ b
parted-up a b n up high =
    let both = sum_to-both (λ s. cond (ltb s b) 1 0) (λ s. cond (parts a b s) 1 0) (λ s. cond (ltb s a) 1 0) n
    (λ s _. upper-term (ltb s a) (ltb s b) (λ t. let low : s < a = ltb-true s a t in lt-ltb s b (omega arith))) in
    omega (arith, both, levels-below a n (omega arith), levels-below b n high)

one_of-turned : (p q : Bool) → one_of p q ≡ one_of q p
one_of-turned true true = refl
one_of-turned true false = refl
one_of-turned false true = refl
one_of-turned false false = refl

parted-turned : (a b n : ℕ) → parted a b n ≡ parted b a n
parted-turned a b n = sum_to-same (λ s. cond (parts a b s) 1 0) (λ s. cond (parts b a s) 1 0) n (λ s _. ap (λ (t : Bool). cond {A = ℕ} t 1 0) (one_of-turned (ltb s a) (ltb s b)))

-- the levels that part two heights and, twice, those below both, are those below either
pub parted-both : (a b n : ℕ) → a ≤ n → b ≤ n → parted a b n + (min a b + min a b) ≡ a + b
parted-both a b n low high =
    elim (cases_lt a b) [
      | inl up ↦ let way : parted a b n + a ≡ b = parted-up a b n (omega arith) high in omega arith
      | inr down ↦
          let way : parted b a n + b ≡ a = parted-up b a n down low in
          let turned : parted a b n ≡ parted b a n = parted-turned a b n in
          omega arith
    ]
