-- The two places at which a term is 1, of terms 0 and 1 that add up to 2.
use Rattle.graph_theory.proofs.Common.{◌≡◌, ℕ, zero, suc, ◌<◌, ◌≤◌, ◌⊎◌, ap, ◌∙◌, arith, inl, inr, cases_eq, sum_to}

module _ (f : ℕ → ℕ) (bits : (k : ℕ) → f k ≤ 1) where
  abbrev Nowhere : ℕ → Type 0
  Nowhere n = (k : ℕ) → k < n → f k ≡ 0

  abbrev Once : ℕ → Type 0
  Once n = (i : ℕ) × (i < n) × (f i ≡ 1) × ((k : ℕ) → k < n → f k ≡ 1 → k ≡ i)

  abbrev Twice : ℕ → Type 0
  Twice n = (i : ℕ) × (j : ℕ) × (i < j) × (j < n) × (f i ≡ 1) × (f j ≡ 1) × ((k : ℕ) → k < n → f k ≡ 1 → (k ≡ i) ⊎ (k ≡ j))

  nowhere : (n : ℕ) → sum_to f n ≡ 0 → Nowhere n
  nowhere zero e k h = absurd (omega arith)
  nowhere (suc n) e k h =
      elim (cases_eq k n) [
        | inl same ↦ ap f same ∙ (let none : f n ≡ 0 = omega arith in none)
        | inr other ↦ nowhere n (omega arith) k (omega arith)
      ]

  here : (n : ℕ) → Nowhere n → f n ≡ 1 → (k : ℕ) → k < suc n → f k ≡ 1 → k ≡ n
  here n none one k h is =
      elim (cases_eq k n) [
        | inl same ↦ same
        | inr other ↦ (let no : f k ≡ 0 = none k (omega arith) in absurd (omega (arith, no, is)))
      ]

  once : (n : ℕ) → sum_to f n ≡ 1 → Once n
  once zero e = absurd (omega arith)
  once (suc n) e =
      elim (cases_eq (f n) 1) [
        | inl one ↦ (n, omega arith, one, here n (nowhere n (omega arith)) one)
        | inr other ↦ (
            let bit : f n ≤ 1 = bits n in
            let no : f n ≡ 0 = omega arith in
            let o = once n (omega arith) in (
              o.0,
              omega (arith, o.1),
              o.2,
              λ k h is.
                  elim (cases_eq k n) [
                    | inl same ↦ (let also : f k ≡ 0 = ap f same ∙ no in absurd (omega (arith, also, is)))
                    | inr apart ↦ o.3 k (omega arith) is
                  ],
            ))
      ]

  pub twice : (n : ℕ) → sum_to f n ≡ 2 → Twice n
  twice zero e = absurd (omega arith)
  twice (suc n) e =
      elim (cases_eq (f n) 1) [
        | inl one ↦ (
            let o = once n (omega arith) in (
              o.0,
              n,
              o.1,
              omega arith,
              o.2,
              one,
              λ k h is.
                  elim (cases_eq k n) [
                    | inl same ↦ inr same
                    | inr apart ↦ inl (o.3 k (omega arith) is)
                  ],
            ))
        | inr other ↦ (
            let bit : f n ≤ 1 = bits n in
            let no : f n ≡ 0 = omega arith in
            let o = twice n (omega arith) in (
              o.0,
              o.1,
              o.2,
              omega (arith, o.3),
              o.4,
              o.5,
              λ k h is.
                  elim (cases_eq k n) [
                    | inl same ↦ (let also : f k ≡ 0 = ap f same ∙ no in absurd (omega (arith, also, is)))
                    | inr apart ↦ o.6 k (omega arith) is
                  ],
            ))
      ]
