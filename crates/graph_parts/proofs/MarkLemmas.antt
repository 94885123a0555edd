-- Lemmas on ascending lists of the marked places.
use Rattle.graph_theory.proofs.Common.{◌≡◌, ◌↔◌, ℕ, ◌+◌, ◌<◌, ◌≤◌, Bool, true, List, [], ◌∷◌, ◌++◌, All, arith, ap, sym, ◌∙◌, subst, inl, inr}
use Rattle.graph_theory.proofs.Common.{IsStrictlyIncreasing, holds, increasing-push, holds-push, All-push, eqb, eqb-true, eq-eqb, or_cases, or_left, or_right, cases_eq}
use Rattle.graph_parts.specs.Marks.{is_marked}

-- the marked places from 1 on that are below n
pub record ListsBelow (marks : List Bool) (n : ℕ) (xs : List ℕ) : Type 0 where
  pub ascending : IsStrictlyIncreasing xs
  pub below : All (λ v. v < n) xs
  pub exact : (v : ℕ) → (holds xs v ≡ true) ↔ ((1 ≤ v) × (v < n) × (is_marked marks v ≡ true))

later : (n : ℕ) (xs : List ℕ) → All (λ v. v < n) xs → All (λ v. v < n + 1) xs
later n xs all = λ k d b. let low : _ = all k d b in omega (arith, low)

-- the next place isn't marked, or it's 0
pub listed-same : (marks : List Bool) (n : ℕ) (xs ys : List ℕ) → ListsBelow marks n xs → (1 ≤ n → is_marked marks n ≡ true → ⊥) → ys ≡ xs →
    ListsBelow marks (n + 1) ys
listed-same marks n xs ys is none same = subst (λ (zs : List ℕ). ListsBelow marks (n + 1) zs) (sym same) record {
  ascending = is.ascending;
  below = later n xs is.below;
  exact = λ v. (
    λ h. let r = (is.exact v).0 h in let b : v < n = r.1 in (r.0, omega (arith, b), r.2),
    λ r. elim (cases_eq v n) [
      | inl e ↦ let low : 1 ≤ v = r.0 in absurd (none (omega (arith, low, e)) (ap (λ w. is_marked marks w) (sym e) ∙ r.2))
      | inr d ↦ let b : v < n + 1 = r.1 in (is.exact v).1 (r.0, omega (arith, b, d), r.2)
    ],
  );
}

-- the next place is marked
pub listed-more : (marks : List Bool) (n : ℕ) (xs ys : List ℕ) → ListsBelow marks n xs → 1 ≤ n → is_marked marks n ≡ true → ys ≡ xs ++ n ∷ [] →
    ListsBelow marks (n + 1) ys
listed-more marks n xs ys is low on longer = subst (λ (zs : List ℕ). ListsBelow marks (n + 1) zs) (sym longer) record {
  ascending = increasing-push xs n is.ascending is.below;
  below = All-push (λ v. v < n + 1) xs n (later n xs is.below) (omega arith);
  exact = λ v. (
    λ h. elim (or_cases (holds xs v) (eqb n v) (sym (holds-push xs n v) ∙ h)) [
      | inl old ↦ let r = (is.exact v).0 old in let b : v < n = r.1 in (r.0, omega (arith, b), r.2)
      | inr new ↦
          let e : n ≡ v = eqb-true n v new in
          (omega (arith, e, low), omega (arith, e), ap (λ w. is_marked marks w) (sym e) ∙ on)
    ],
    λ r. holds-push xs n v ∙ elim (cases_eq v n) [
      | inl e ↦ or_right (holds xs v) (eqb n v) (eq-eqb n v (sym e))
      | inr d ↦ let b : v < n + 1 = r.1 in or_left (holds xs v) (eqb n v) ((is.exact v).1 (r.0, omega (arith, b, d), r.2))
    ],
  );
}
