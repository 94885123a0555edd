-- The numbers of marked places, ascending.
use Rattle.graph_theory.proofs.Common.{◌≡◌, ℕ, ◌+◌, ◌<◌, ◌≤◌, Bool, true, false, cond, eqb, ◌||◌, ap, sym, ◌∙◌, subst, inl, inr, arith, List, [], ◌∷◌}
use Rattle.graph_theory.proofs.Common.{◌++◌, slice_index_or, All, or-false, IsStrictlyIncreasing, cases_eq, cases_Bool, eq-eqb, ne_eqb, or_right, false_from_ne_true, All-nil, All-cons}
use Rattle.graph_theory.proofs.Common.{All-append, holds, holds_all, holds-push, increasing-push}

-- the numbers of the marked ones of the first n places
pub record AreMarked (marks : List Bool) (n : ℕ) (es : List ℕ) : Type 0 where
  pub ascending : IsStrictlyIncreasing es
  pub in_range : All (λ e. (1 ≤ e) × (e ≤ n)) es
  pub exact : (k : ℕ) → k < n → holds es (k + 1) ≡ slice_index_or marks k false

wider : (n : ℕ) (es : List ℕ) → All (λ e. (1 ≤ e) × (e ≤ n)) es → All (λ e. (1 ≤ e) × (e ≤ n + 1)) es
wider n es all = λ k d b. let e = all k d b in (e.0, let high = e.1 in omega (arith, high))

-- a marked place more
marked-on : (marks : List Bool) (n : ℕ) (es : List ℕ) → AreMarked marks n es → slice_index_or marks n false ≡ true → AreMarked marks (n + 1) (es ++ (n + 1) ∷ [])
marked-on marks n es are on = record {
  ascending = increasing-push es (n + 1) are.ascending (λ k d b. let e = are.in_range k d b in let high = e.1 in omega (arith, high));
  in_range = All-append (λ e. (1 ≤ e) × (e ≤ n + 1)) es ((n + 1) ∷ []) (wider n es are.in_range) (All-cons (λ e. (1 ≤ e) × (e ≤ n + 1)) (n + 1) [] (omega arith, omega arith) (All-nil
      (λ e. (1 ≤ e) × (e ≤ n + 1))));
  exact = λ k b.
      holds-push es (n + 1) (k + 1)
      ∙ elim (cases_eq k n) [
        | inl e ↦ or_right (holds es (k + 1)) (eqb (n + 1) (k + 1)) (eq-eqb (n + 1) (k + 1) (omega (arith, e))) ∙ sym on ∙ ap (λ (j : ℕ). slice_index_or marks j false) (sym e)
        | inr d ↦ ap (λ (t : Bool). holds es (k + 1) || t) (ne_eqb (n + 1) (k + 1) (λ e. d (omega (arith, e)))) ∙ or-false (holds es (k + 1)) ∙ are.exact k (omega (arith, b, d))
      ];
}

-- a place more that isn't marked
marked-off : (marks : List Bool) (n : ℕ) (es : List ℕ) → AreMarked marks n es → slice_index_or marks n false ≡ false → AreMarked marks (n + 1) es
marked-off marks n es are off = record {
  ascending = are.ascending;
  in_range = wider n es are.in_range;
  exact = λ k b.
      elim (cases_eq k n) [
        | inl e ↦
            let none : holds es (n + 1) ≡ false = false_from_ne_true (holds es (n + 1)) (λ h. let r = holds_all (λ e. (1 ≤ e) × (e ≤ n)) es (n + 1) are.in_range h in let high = r.1 in omega
            (arith, high)) in
            ap (λ (j : ℕ). holds es (j + 1)) e ∙ none ∙ sym off ∙ ap (λ (j : ℕ). slice_index_or marks j false) (sym e)
        | inr d ↦ are.exact k (omega (arith, b, d))
      ];
}

pub marked-step : (marks : List Bool) (n : ℕ) (es new : List ℕ) (mark : Bool) → AreMarked marks n es → mark ≡ slice_index_or marks n false → new ≡ cond mark (es ++ (n + 1) ∷ []) es
    → AreMarked marks (n + 1) new
marked-step marks n es new mark are is now =
    let P : List ℕ → Type 0 = AreMarked marks (n + 1) in
    elim (cases_Bool mark) [
      | inl on ↦ subst P (sym (now ∙ ap (λ (t : Bool). cond t (es ++ (n + 1) ∷ []) es) on)) (marked-on marks n es are (sym is ∙ on))
      | inr off ↦ subst P (sym (now ∙ ap (λ (t : Bool). cond t (es ++ (n + 1) ∷ []) es) off)) (marked-off marks n es are (sym is ∙ off))
    ]
