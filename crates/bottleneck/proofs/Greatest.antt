-- The weight of the heaviest edge of a list.
use Rattle.mb_problem.proofs.Common.{◌≡◌, ℕ, zero, suc, ◌+◌, ◌-◌, ◌<◌, ◌≤◌, ◌⊎◌, ℤ, pos, ◌≤ℤ◌, Bool, true, false, cond, refl, ap, sym, subst, inl}
use Rattle.mb_problem.proofs.Common.{inr, arith, List, [], ◌∷◌, length, slice_index, All, Option, Some, None, nat_lt, int_le, unwrap_or, ints, cases_eq, cases_Bool, eq-eqb, lt-ltb}
use Rattle.mb_problem.proofs.Common.{ltb-true, or_left, or_right, All-nil, All-cons, Multigraph, IsEdgeNumber, edge_at, edge_of, holds, holds_all, edge_of-place, greater_of, greatest_to}
use Rattle.mb_problem.proofs.Common.{used_weight, heaviest, int_le-yes as le-true}
use Rattle.gadget_base.proofs.Common.{times, times_each, times_each-at, times-held, held-times}

abbrev AtMost : ℤ → Option ℤ → Type 0
AtMost w None = Unit {0}
AtMost w (Some a) = a ≤ℤ w

greater-most : (w : ℤ) (a b : Option ℤ) → AtMost w a → AtMost w b → AtMost w (greater_of a b)
greater-most w None b h k = k
greater-most w (Some a) None h k = h
greater-most w (Some a) (Some b) h k = elim (cases_Bool (int_le b a)) [ inl on ↦ rw on h | inr off ↦ rw off k ]

greatest-most : (f : ℕ → Option ℤ) (w : ℤ) (n : ℕ) → ((k : ℕ) → k < n → AtMost w (f k)) → AtMost w (greatest_to f n)
greatest-most f w zero all = tt
greatest-most f w (suc n) all = greater-most w (greatest_to f n) (f n) (greatest-most f w n (λ k b. all k (omega (arith, b)))) (all n (omega arith))

same_ends : (a b : ℤ) → a ≤ℤ b → int_le b a ≡ true → a ≡ b
same_ends a b h k = grind (arith, ints)

greater-last : (w : ℤ) (a : Option ℤ) → AtMost w a → greater_of a (Some w) ≡ Some w
greater-last w None h = refl
greater-last w (Some a) h =
    elim (cases_Bool (int_le w a)) [
      | inl on ↦ rw on (ap Some (same_ends a w h on))
      | inr off ↦ rw off refl
    ]

greater-first : (w : ℤ) (b : Option ℤ) → AtMost w b → greater_of (Some w) b ≡ Some w
greater-first w None h = refl
greater-first w (Some b) h = rw (le-true b w h) refl

greatest-is : (f : ℕ → Option ℤ) (w : ℤ) (n k : ℕ) → ((j : ℕ) → j < n → AtMost w (f j)) → k < n → f k ≡ Some w → greatest_to f n ≡ Some w
greatest-is f w zero k all b is = absurd (omega (arith, b))
greatest-is f w (suc n) k all b is =
    elim (cases_eq k n) [
      | inl last ↦ rw (subst (λ (j : ℕ). f j ≡ Some w) last is) (greater-last w (greatest_to f n) (greatest-most f w n (λ j c. all j (omega (arith, c)))))
      | inr before ↦ rw (greatest-is f w n k (λ j c. all j (omega (arith, c))) (omega (arith, b, before)) is) (greater-first w (f n) (all n (omega arith)))
    ]

used-most : (w z : ℤ) (t : Bool) → (t ≡ true → z ≤ℤ w) → AtMost w (cond t (Some z) None)
used-most w z true h = h refl
used-most w z false h = tt

-- the listed edges weigh at most w, and one of them as much
pub listed-heaviest : (g : Multigraph) (es : List ℕ) (w : ℤ) (e : ℕ) → All (λ x. (edge_of g x).w ≤ℤ w) es → holds es e ≡ true → IsEdgeNumber g e → (edge_of g e).w ≡ w
    → heaviest g (times_each g es) ≡ w
listed-heaviest g es w e all there is weighs =
    let m = length g.edges in
    let low : 1 ≤ e = is.0 in
    let high : e ≤ m = is.1 in
    let here : e - 1 < m = omega (arith, low, high) in
    let back : e - 1 + 1 ≡ e = omega (arith, low) in
    let listed : 1 ≤ times es (e - 1 + 1) = subst (λ (x : ℕ). 1 ≤ times es x) (sym back) (held-times es e there) in
    let counted : 1 ≤ slice_index (times_each g es) (e - 1) = subst (λ (c : ℕ). 1 ≤ c) (sym (times_each-at g es (e - 1) here)) listed in
    let at : used_weight g (times_each g es) (e - 1) ≡ Some w = rw (lt-ltb 0 (slice_index (times_each g es) (e - 1)) counted) (ap Some weighs) in
    ap (λ (o : Option ℤ). unwrap_or o (pos 0))
    (greatest-is (used_weight g (times_each g es)) w m (e - 1)
    (λ k b. used-most w (edge_at g k).w (nat_lt 0 (slice_index (times_each g es) k)) (λ used.
    let c : 1 ≤ times es (k + 1) = subst (λ (c : ℕ). 1 ≤ c) (times_each-at g es k b) (ltb-true 0 (slice_index (times_each g es) k) used) in
    ((subst (λ x. x.w ≤ℤ w) (edge_of-place g k) (holds_all (λ x. (edge_of g x).w ≤ℤ w) es (k + 1) all (times-held es (k + 1) c))))))
    here at)

-- all pass, or one doesn't
pub all_or_one : (p : ℕ → Bool) (es : List ℕ) → All (λ e. p e ≡ true) es ⊎ ((e : ℕ) × (holds es e ≡ true) × (p e ≡ false))
all_or_one p [] = inl (All-nil (λ e. p e ≡ true))
all_or_one p (e ∷ es) =
    elim (cases_Bool (p e)) [
      | inl on ↦ elim (all_or_one p es) [
        | inl rest ↦ inl (All-cons (λ x. p x ≡ true) e es on rest)
        | inr one ↦ inr (one.0, or_right _ (holds es one.0) one.1, one.2)
      ]
      | inr off ↦ inr (e, or_left _ (holds es e) (eq-eqb e e refl), off)
    ]
