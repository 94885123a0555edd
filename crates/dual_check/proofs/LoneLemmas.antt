-- Lemmas on flags of sets that are taken off, one set after the other, and on sets that are alone.
use Rattle.graph_theory.proofs.Common.{◌≡◌, ◌∙◌, sym, ap, subst, inl, inr, arith, ℕ, ◌+◌, ◌<◌, Bool, true, false, not, eqb, ◌||◌, ◌&&◌, List, [], length, set}
use Rattle.graph_theory.proofs.Common.{◌↔◌, cases_eq, eq-eqb, eqb-true, ne_eqb, and_parts, or_cases, or_left, or_right, and_from, not-true, not_from_false, false≢true, nat_tests}
use Rattle.graph_theory.proofs.Common.{holds, given_at, ◌-◌, ◌≤◌, get_or, take, holds-take}
use Rattle.std.proofs.Common.{get_or-set_same, get_or-set_other}
use Rattle.graph_theory.specs.declared.odd_set.OddSet.{OddSet}
use Rattle.graph_parts.specs.Marks.{is_marked}
use Rattle.dual_check.proofs.TakenLemmas.{no_items}

-- what is left of a flag: of that of a set that refers to others nothing
own_kept : (a n e : Bool) → e ≡ true → a ≡ (a && (n || e))
own_kept a n e on = grind (arith, nat_tests)

own_off : (a n e : Bool) → n ≡ false → e ≡ false → false ≡ (a && (n || e))
own_off a n e off none = grind (arith, nat_tests)

own_other : (a n e : Bool) → n ≡ true → a ≡ (a && (n || e))
own_other a n e on = grind (arith, nat_tests)

pub kept_flag : (flags : List Bool) (k m j : ℕ) (empty : Bool) → empty ≡ eqb m 0 → empty ≡ true → is_marked flags j ≡ (is_marked flags j && (not (eqb k j) || eqb m 0))
kept_flag flags k m j empty is on = own_kept (is_marked flags j) (not (eqb k j)) (eqb m 0) (sym is ∙ on)

pub flag_off : (flags : List Bool) (k m j : ℕ) (empty : Bool) → k < length flags → empty ≡ eqb m 0 → empty ≡ false
    → is_marked (set flags k false) j ≡ (is_marked flags j && (not (eqb k j) || eqb m 0))
flag_off flags k m j empty b is off = elim (cases_eq k j) [
  | inl same ↦ ap (is_marked (set flags k false)) (sym same) ∙ get_or-set_same _ _ _ _ b
      ∙ own_off (is_marked flags j) (not (eqb k j)) (eqb m 0) (ap not (eq-eqb k j same)) (sym is ∙ off)
  | inr differ ↦ get_or-set_other flags k j false false (λ e. differ (sym e))
      ∙ own_other (is_marked flags j) (not (eqb k j)) (eqb m 0) (not_from_false _ (ne_eqb k j differ))
]

-- of the first k sets none refers to the set at place j, and it isn't one of them that refers to some
pub record IsAloneTo (sets : List OddSet) (k j : ℕ) : Type 0 where
  pub own : j < k → (given_at sets j).references ≡ []
  pub none_refers : (i : ℕ) → i < k → holds (given_at sets i).references (j + 1) ≡ false

-- one set more: its own flag is taken off where it refers to some, and those of the sets that it refers to
pub alone_next : (sets : List OddSet) (k j : ℕ) (old new : Bool) (refs : List ℕ) → refs ≡ (given_at sets k).references
    → new ≡ ((old && not (holds refs (j + 1))) && (not (eqb k j) || eqb (length refs) 0)) → (old ≡ true) ↔ IsAloneTo sets k j → (new ≡ true) ↔ IsAloneTo sets (k + 1) j
alone_next sets k j old new refs is value so = (
  λ on.
      let outer = and_parts _ _ (sym value ∙ on) in
      let inner = and_parts _ _ outer.0 in
      let was = so.0 inner.0 in
      record {
        own = λ b. elim (cases_eq k j) [
          | inl here ↦ subst (λ z. (given_at sets z).references ≡ []) here (sym is ∙ no_items refs (elim (or_cases _ _ outer.1) [
            | inl e ↦ absurd (false≢true (sym (not-true _ e) ∙ eq-eqb k j here))
            | inr e ↦ eqb-true _ _ e
          ]))
          | inr differ ↦ was.own (omega (arith, b, differ))
        ];
        none_refers = λ i b. elim (cases_eq i k) [
          | inl here ↦ ap (λ z. holds (given_at sets z).references (j + 1)) here ∙ ap (λ (rs : List ℕ). holds rs (j + 1)) (sym is) ∙ not-true _ inner.1
          | inr differ ↦ was.none_refers i (omega (arith, b, differ))
        ];
      },
  λ alone.
      let was = so.1 (record { own = λ b. alone.own (omega (arith, b)); none_refers = λ i b. alone.none_refers i (omega (arith, b)) }) in
      value ∙ and_from _ _ (and_from _ _ was (not_from_false _ (ap (λ (rs : List ℕ). holds rs (j + 1)) is ∙ alone.none_refers k (omega arith)))) (elim (cases_eq k j) [
        | inl here ↦
            or_right _ _ (eq-eqb (length refs) 0 (ap length (is ∙ ap (λ z. (given_at sets z).references) here ∙ alone.own (omega (arith, here)))))
        | inr differ ↦ or_left _ _ (not_from_false _ (ne_eqb k j differ))
      ]),
)

taken_off : (m h b : Bool) → b ≡ true → false ≡ (m && not (h || b))
taken_off m h b hit = grind (arith, nat_tests)

kept_on : (m h b : Bool) → b ≡ false → (m && not h) ≡ (m && not (h || b))
kept_on m h b miss = grind (arith, nat_tests)

-- one more of the sets that one refers to has no flag
pub dropped-next : (old flags : List Bool) (refs : List ℕ) (i : ℕ) → i < length refs → 1 ≤ get_or refs i 0 → get_or refs i 0 ≤ length flags
    → ((j : ℕ) → is_marked flags j ≡ (is_marked old j && not (holds (take i refs) (j + 1)))) → (j : ℕ)
    → is_marked (set flags (get_or refs i 0 - 1) false) j ≡ (is_marked old j && not (holds (take (i + 1) refs) (j + 1)))
dropped-next old flags refs i below low high so j =
    let r = get_or refs i 0 in
    let before = holds (take i refs) (j + 1) in
    let more = ap (λ t. is_marked old j && not t) (sym (holds-take refs i (j + 1) below)) in
    elim (cases_eq r (j + 1)) [
      | inl same ↦
          let place : r - 1 ≡ j = omega (arith, same) in
          ap (λ k. is_marked (set flags k false) j) place ∙ get_or-set_same flags j false false (omega (arith, same, high)) ∙ taken_off (is_marked old j) before (eqb r (j + 1))
          (eq-eqb r (j + 1) same) ∙ more
      | inr differ ↦ get_or-set_other flags (r - 1) j false false (λ e. differ (omega (arith, e, low))) ∙ so j ∙ kept_on (is_marked old j) before (eqb r (j + 1))
          (ne_eqb r (j + 1) differ) ∙ more
    ]
