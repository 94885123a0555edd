-- Which of the two ends of a path stands in which copy; all other vertices stand in both.
use Rattle.mb_problem.proofs.Common.{◌≡◌, ◌≢◌, ℕ, ◌+◌, ◌-◌, ◌≤◌, ◌%◌, Bool, true, false, not, eqb, ◌&&◌, refl, ap, ap₂, sym, ◌∙◌, subst, inl, inr}
use Rattle.mb_problem.proofs.Common.{arith, slice_index, cases_eq, eq-eqb, ne_eqb, AreEnds, Network, vertices, value_of, odd_before, is_end, in_first, in_second, ends-low, ends-high}
use Rattle.mb_problem.proofs.Common.{sum_to-none, sum_to-only, one_if}

-- what holds of both ends and of each other vertex holds of each vertex
pub by_ends : (P : ℕ → Type 0) (s t v : ℕ) → P s → P t → (v ≢ s → v ≢ t → P v) → P v
by_ends P s t v at_s at_t inner =
    elim (cases_eq v s) [
      | inl e ↦ subst P (sym e) at_s
      | inr d ↦ elim (cases_eq v t) [ inl e ↦ subst P (sym e) at_t | inr d' ↦ inner d d' ]
    ]

pub same_one : (v : ℕ) → one_if (eqb v v) ≡ 1
same_one v = ap one_if (eq-eqb v v refl)

pub other_none : (a v : ℕ) → v ≢ a → one_if (eqb a v) ≡ 0
other_none a v d = ap one_if (ne_eqb a v (λ e. d (sym e)))

pub record StandBy (odd : Bool) (i : Network) (s t : ℕ) : Type 0 where
  pub start_first : in_first odd i s ≡ true
  pub start_second : in_second odd i s ≡ false
  pub finish_first : in_first odd i t ≡ odd
  pub finish_second : in_second odd i t ≡ not odd
  pub inner_first : (v : ℕ) → 1 ≤ v → v ≤ vertices i → v ≢ s → v ≢ t → in_first odd i v ≡ true
  pub inner_second : (v : ℕ) → 1 ≤ v → v ≤ vertices i → v ≢ s → v ≢ t → in_second odd i v ≡ true

-- the value of each other vertex is even
inner-value : (i : Network) (s t v : ℕ) → AreEnds i s t → 1 ≤ v → v ≤ vertices i → v ≢ s → v ≢ t → value_of i v % 2 ≡ 0
inner-value i s t v ends low high off off' =
    let none : value_of i v % 2 ≡ 1 → ⊥ = λ odd. elim ((ends.exact v).0 (low, high, odd)) [ inl e ↦ off e | inr e ↦ off' e ] in
    omega (arith, none)

-- no vertex of odd value stands before s, and one before t

before-start : (i : Network) (s t : ℕ) → AreEnds i s t → odd_before i s ≡ 0
before-start i s t ends =
    let order = ends.order in
    let most = ends-high i s t ends in
    sum_to-none (λ k. slice_index i.values k % 2) (s - 1)
    (λ k b. ap (λ (p : ℕ). slice_index i.values p % 2) (let e : k ≡ k + 1 - 1 = omega arith in e)
    ∙ inner-value i s t (k + 1) ends (omega arith) (omega (arith, b, order, most)) (λ e. omega (arith, b, e)) (λ e. omega (arith, b, order, e)))

before-finish : (i : Network) (s t : ℕ) → AreEnds i s t → odd_before i t ≡ 1
before-finish i s t ends =
    let order = ends.order in
    let most = ends-high i s t ends in
    let least = ends-low i s t ends in
    sum_to-only (λ k. slice_index i.values k % 2) (s - 1) (t - 1) (omega (arith, order, least))
    (λ k b d. ap (λ (p : ℕ). slice_index i.values p % 2) (let e : k ≡ k + 1 - 1 = omega arith in e)
    ∙ inner-value i s t (k + 1) ends (omega arith) (omega (arith, b, most)) (λ e. d (omega (arith, e))) (λ e. omega (arith, b, e)))
    ∙ ((ends.exact s).1 (inl refl)).2

end-is : (i : Network) (v before here : ℕ) → value_of i v % 2 ≡ 1 → odd_before i v ≡ here → is_end before i v ≡ eqb here before
end-is i v before here odd at = ap₂ (λ (x y : ℕ). eqb x 1 && eqb y before) odd at

end-off : (i : Network) (v before : ℕ) → value_of i v % 2 ≡ 0 → is_end before i v ≡ false
end-off i v before even = ap (λ (x : ℕ). eqb x 1 && eqb (odd_before i v) before) even

pub stand-by : (odd : Bool) (i : Network) (s t : ℕ) → AreEnds i s t → StandBy odd i s t
stand-by true i s t ends = record {
  start_first = refl;
  start_second = ap (λ (x : ℕ). not (eqb x 1)) ((ends.exact s).1 (inl refl)).2;
  finish_first = refl;
  finish_second = ap (λ (x : ℕ). not (eqb x 1)) ((ends.exact t).1 (inr refl)).2;
  inner_first = λ v low high off off'. refl;
  inner_second = λ v low high off off'. ap (λ (x : ℕ). not (eqb x 1)) (inner-value i s t v ends low high off off');
}
stand-by false i s t ends =
    let odd_s : value_of i s % 2 ≡ 1 = ((ends.exact s).1 (inl refl)).2 in
    let odd_t : value_of i t % 2 ≡ 1 = ((ends.exact t).1 (inr refl)).2 in
    record {
      start_first = ap not (end-is i s 1 0 odd_s (before-start i s t ends));
      start_second = ap not (end-is i s 0 0 odd_s (before-start i s t ends));
      finish_first = ap not (end-is i t 1 1 odd_t (before-finish i s t ends));
      finish_second = ap not (end-is i t 0 1 odd_t (before-finish i s t ends));
      inner_first = λ v low high off off'. ap not (end-off i v 1 (inner-value i s t v ends low high off off'));
      inner_second = λ v low high off off'. ap not (end-off i v 0 (inner-value i s t v ends low high off off'));
    }
