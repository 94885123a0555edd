-- How many pass a test, once two fail it that passed before.
use Rattle.alt_forest.proofs.Common.{◌≡◌, ◌≢◌, ℕ, ◌+◌, ◌≤◌, Bool, true, false, eqb, refl, sym, ap, ◌∙◌, arith, ne_eqb, eqb-true, eqb-false, sum_to, sum_to-same}
use Rattle.alt_forest.proofs.Common.{sum_to-add, sum_to-at_one, by_test, one_if}

pub two_fewer : (p q : ℕ → Bool) (x y n : ℕ) → x ≢ y → (1 ≤ x) × (x ≤ n) → (1 ≤ y) × (y ≤ n) → p x ≡ true → p y ≡ true → q x ≡ false → q y ≡ false
    → ((c : ℕ) → c ≢ x → c ≢ y → q c ≡ p c) → sum_to (λ i. one_if (q (i + 1))) n + 2 ≡ sum_to (λ i. one_if (p (i + 1))) n
two_fewer p q x y n ne x_range y_range px py qx qy others =
    let all = sum_to-same (λ i. one_if (p (i + 1))) (λ i. one_if (q (i + 1)) + (one_if (eqb x (i + 1)) + one_if (eqb y (i + 1)))) n (λ i _. step (i + 1)) in
    let first = sum_to-add (λ i. one_if (q (i + 1))) (λ i. one_if (eqb x (i + 1)) + one_if (eqb y (i + 1))) n in
    let second = sum_to-add (λ i. one_if (eqb x (i + 1))) (λ i. one_if (eqb y (i + 1))) n in
    let at_x : sum_to (λ i. one_if (eqb x (i + 1))) n ≡ 1 = sum_to-at_one (λ _. 1) x n x_range.0 x_range.1 in
    let at_y : sum_to (λ i. one_if (eqb y (i + 1))) n ≡ 1 = sum_to-at_one (λ _. 1) y n y_range.0 y_range.1 in
    omega (arith, all, first, second, at_x, at_y)
  where
    step : (c : ℕ) → one_if (p c) ≡ one_if (q c) + (one_if (eqb x c) + one_if (eqb y c))
    step c = by_test (eqb x c)
        (λ e. let same : x ≡ c = eqb-true x c e in
        let before : p c ≡ true = ap p (sym same) ∙ px in
        let after : q c ≡ false = ap q (sym same) ∙ qx in
        let other : eqb y c ≡ false = ne_eqb y c (λ r. ne (same ∙ sym r)) in
        rw (before, after, e, other) refl)
        (λ e. by_test (eqb y c)
        (λ f. let same : y ≡ c = eqb-true y c f in
        let before : p c ≡ true = ap p (sym same) ∙ py in
        let after : q c ≡ false = ap q (sym same) ∙ qy in
        rw (before, after, e, f) refl) (λ f. let keeps : q c ≡ p c = others c (λ r. eqb-false x c e (sym r)) (λ r. eqb-false y c f (sym r)) in
        rw (keeps, e, f) (omega arith)))
