-- The first index at which something is found.
use Rattle.mb_problem.proofs.Common.{◌≡◌, ℕ, zero, suc, ◌+◌, ◌<◌, Option, None, Some, refl, ap, sym, ◌∙◌, arith, inl, inr, option_or, cases_eq}
use Rattle.array_joins.specs.First.{first_of}

neither : {A : Type 0} (a b : Option A) → option_or a b ≡ None → (a ≡ None) × (b ≡ None)
neither None b e = (refl, e)
neither (Some x) b e = absurd cc

-- nothing is found at an index below a number where nothing is
pub none-below : {A : Type 0} (found_at : ℕ → Option A) (n k : ℕ) → first_of found_at n ≡ None → k < n → found_at k ≡ None
none-below found_at zero k e h = absurd (omega arith)
none-below found_at (suc n) k e h =
    let parts = neither (first_of found_at n) (found_at n) e in
    elim (cases_eq k n) [
      | inl same ↦ ap found_at same ∙ parts.1
      | inr other ↦ none-below found_at n k parts.0 (omega arith)
    ]

-- one index more without anything
pub none-more : {A : Type 0} (found_at : ℕ → Option A) (k : ℕ) → first_of found_at k ≡ None → found_at k ≡ None → first_of found_at (k + 1) ≡ None
none-more found_at k before here =
    ap (first_of found_at) (let e : k + 1 ≡ suc k = omega arith in e) ∙ ap (λ o. option_or o (found_at k)) before ∙ here

-- the first one, behind indexes without anything
pub first-found : {A : Type 0} (found_at : ℕ → Option A) (n k : ℕ) (x : A) → first_of found_at k ≡ None → found_at k ≡ Some x → k < n → first_of found_at n ≡ Some x
first-found found_at zero k x before here h = absurd (omega arith)
first-found found_at (suc n) k x before here h =
    elim (cases_eq k n) [
      | inl same ↦ ap (first_of found_at) (ap suc (sym same)) ∙ ap (λ o. option_or o (found_at k)) before ∙ here
      | inr other ↦ ap (λ o. option_or o (found_at n)) (first-found found_at n k x before here (omega arith))
    ]
