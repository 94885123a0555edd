-- Lemmas on the sets that are taken out of all: their part of what an edge crosses, from what they share at its two ends.
use Rattle.graph_theory.proofs.Common.{◌≡◌, ◌∙◌, sym, ap, ap₂, refl, inl, inr, arith, ℕ, ◌+◌, ◌<◌, ◌≤◌, ℤ, pos, neg_ℤ, ◌+ℤ◌, ◌-ℤ◌, ◌*ℤ◌}
use Rattle.graph_theory.proofs.Common.{◌≤ℤ◌, Bool, true, false, not, cond, eqb, ◌||◌, ◌&&◌, List, [], ◌∷◌, length, get_or, All, ints, nat_tests, eqb-true, cases_lt}
use Rattle.graph_theory.proofs.Common.{int_sum_to, IsEdgeWithin, touches, other_end, is_loop, crosses, holds, IsNumber, given_at, no_given, eqb-turned, int_sum_to-same, int_sum_to-add}
use Rattle.graph_theory.proofs.Common.{int_sum_to-more, int_sum_to-at_none, int_sum_to-at_one, other_end-u}
use Rattle.graph_theory.specs.declared.odd_set.OddSet.{OddSet}
use Rattle.graph_theory.specs.declared.edge.Edge.{Edge}
use Rattle.graph_theory.specs.declared.limits.TheConstants.{NUMBER_LIMIT}
use Rattle.graph_parts.specs.Marks.{is_marked}
use Rattle.dual_check.specs.Crossed.{total_at}
use Rattle.dual_check.specs.Shared.{sum_over, set_dual, dual_with, taken_dual, other_dual, is_held, crossed_at, IsHolders, AreShares}
use Rattle.dual_check.specs.declared.shares.Shares.{Shares}
use Rattle.dual_check.proofs.ShareLemmas.{given_or_none, none_or_given, sum_minus, sum-within}

-- the parts of the sum at an edge

parted : (c t l a : Bool) (d : ℤ) → (t ≡ true → a ≡ true) → l ≡ (t || not a)
    → cond c (cond a d (pos 0)) (pos 0) ≡ (cond c (cond l (pos 0) d) (pos 0) +ℤ cond c (cond t d (pos 0)) (pos 0))
parted c t l a d within left = grind (arith, ints, nat_tests)

-- what an edge crosses of the sets that are alone comes from those that are taken and those that aren't left out
pub crossed_parted : (sets : List OddSet) (alone taken left : List Bool) (n : ℕ) (e : Edge) → ((j : ℕ) → is_marked taken j ≡ true → is_marked alone j ≡ true)
    → ((j : ℕ) → j < n → is_marked left j ≡ (is_marked taken j || not (is_marked alone j)))
    → crossed_at sets (taken_dual sets alone) n e ≡ (crossed_at sets (other_dual sets left) n e +ℤ crossed_at sets (taken_dual sets taken) n e)
crossed_parted sets alone taken left n e within rest =
    int_sum_to-same (λ j. cond (crosses (given_at sets j).vertices e) (taken_dual sets alone j) (pos 0))
    (λ j. cond (crosses (given_at sets j).vertices e) (other_dual sets left j) (pos 0) +ℤ cond (crosses (given_at sets j).vertices e) (taken_dual sets taken j) (pos 0)) n
    (λ j b. parted (crosses (given_at sets j).vertices e) (is_marked taken j) (is_marked left j) (is_marked alone j) (given_at sets j).dual (within j) (rest j b)) ∙ int_sum_to-add _ _ n

pub taken-within : (sets : List OddSet) (taken : List Bool) (n : ℕ) (e : Edge) → n ≤ length sets → All (λ s. IsNumber s.dual) sets
    → ((neg_ℤ NUMBER_LIMIT *ℤ pos n) ≤ℤ crossed_at sets (taken_dual sets taken) n e) × (crossed_at sets (taken_dual sets taken) n e ≤ℤ (NUMBER_LIMIT *ℤ pos n))
taken-within sets taken n e b small = sum-within (λ j. cond (crosses (given_at sets j).vertices e) (taken_dual sets taken j) (pos 0)) n
    (λ j c. given_or_none (crosses (given_at sets j).vertices e) _ (given_or_none (is_marked taken j) _ (small j no_given (omega arith))))

-- a set that is taken gives the others nothing
pub none_more : (c t : Bool) (a d : ℤ) → t ≡ true → a ≡ (a +ℤ cond c (cond t (pos 0) d) (pos 0))
none_more c t a d is = grind (arith, ints, nat_tests)

pub others-within : (sets : List OddSet) (taken : List Bool) (n : ℕ) (e : Edge) → n ≤ length sets → All (λ s. IsNumber s.dual) sets
    → ((neg_ℤ NUMBER_LIMIT *ℤ pos n) ≤ℤ crossed_at sets (other_dual sets taken) n e) × (crossed_at sets (other_dual sets taken) n e ≤ℤ (NUMBER_LIMIT *ℤ pos n))
others-within sets taken n e b small = sum-within (λ j. cond (crosses (given_at sets j).vertices e) (other_dual sets taken j) (pos 0)) n
    (λ j c. given_or_none (crosses (given_at sets j).vertices e) _ (none_or_given (is_marked taken j) _ (small j no_given (omega arith))))

-- the duals of the taken sets that hold u and not w
abbrev pub left_at : List OddSet → List Bool → ℕ → ℕ → ℤ
left_at sets taken u w = int_sum_to (λ j. cond (is_held sets taken u j) (set_dual sets j -ℤ dual_with sets w j) (pos 0)) (length sets)

left_number : (t h : Bool) (d : ℤ) → IsNumber d → IsNumber (cond t (d -ℤ cond h d (pos 0)) (pos 0))
left_number t h d small = grind (arith, ints, nat_tests)

pub left-within : (sets : List OddSet) (taken : List Bool) (u w : ℕ) → All (λ s. IsNumber s.dual) sets
    → ((neg_ℤ NUMBER_LIMIT *ℤ pos (length sets)) ≤ℤ left_at sets taken u w) × (left_at sets taken u w ≤ℤ (NUMBER_LIMIT *ℤ pos (length sets)))
left-within sets taken u w small = sum-within (λ j. cond (is_held sets taken u j) (set_dual sets j -ℤ dual_with sets w j) (pos 0)) (length sets)
    (λ j b. left_number (is_held sets taken u j) (holds (given_at sets j).vertices w) _ (small j no_given b))

-- what the sets that hold u don't share with w
pub unshared_is : (n m : ℕ) (sets : List OddSet) (taken : List Bool) (lists : List (List ℕ)) (list : List ℕ) (s : Shares) (u w : ℕ) → IsHolders n sets taken lists → list ≡ get_or lists u []
    → AreShares m sets list s → (s.whole -ℤ total_at s.with_vertex.items w) ≡ left_at sets taken u w
unshared_is n m sets taken lists list s u w held is shares =
    ap₂ (λ a b. a -ℤ b) shares.whole (shares.exact w) ∙ sym (sum_minus (λ a. set_dual sets (get_or list a 0)) (λ a. dual_with sets w (get_or list a 0)) (length list))
    ∙ ap (λ (xs : List ℕ). sum_over (λ j. set_dual sets j -ℤ dual_with sets w j) xs) is ∙ held.exact u (λ j. set_dual sets j -ℤ dual_with sets w j)

pub none_left : (n : ℕ) (sets : List OddSet) (taken : List Bool) (lists : List (List ℕ)) (u w : ℕ) → IsHolders n sets taken lists → get_or lists u [] ≡ [] → left_at sets taken u w ≡ pos 0
none_left n sets taken lists u w held none =
    sym (held.exact u (λ j. set_dual sets j -ℤ dual_with sets w j)) ∙ ap (λ (xs : List ℕ). sum_over (λ j. set_dual sets j -ℤ dual_with sets w j) xs) none

held_within : (n : ℕ) (sets : List OddSet) (taken : List Bool) (lists : List (List ℕ)) (list : List ℕ) (u : ℕ) (f : ℕ → ℤ) → IsHolders n sets taken lists → list ≡ get_or lists u []
    → ((j : ℕ) → j < length sets → IsNumber (f j))
    → ((neg_ℤ NUMBER_LIMIT *ℤ pos (length sets)) ≤ℤ sum_over f list) × (sum_over f list ≤ℤ (NUMBER_LIMIT *ℤ pos (length sets)))
held_within n sets taken lists list u f held is small =
    let same : sum_over f list ≡ int_sum_to (λ j. cond (is_held sets taken u j) (f j) (pos 0)) (length sets) = ap (λ (xs : List ℕ). sum_over f xs) is ∙ held.exact u f in
    let r = sum-within (λ j. cond (is_held sets taken u j) (f j) (pos 0)) (length sets) (λ j b. given_or_none (is_held sets taken u j) (f j) (small j b)) in
    (omega (arith, ints, same, r.0), omega (arith, ints, same, r.1))

pub whole-within : (n : ℕ) (sets : List OddSet) (taken : List Bool) (lists : List (List ℕ)) (list : List ℕ) (u : ℕ) → IsHolders n sets taken lists → list ≡ get_or lists u []
    → All (λ s. IsNumber s.dual) sets
    → ((neg_ℤ NUMBER_LIMIT *ℤ pos (length sets)) ≤ℤ sum_over (set_dual sets) list) × (sum_over (set_dual sets) list ≤ℤ (NUMBER_LIMIT *ℤ pos (length sets)))
whole-within n sets taken lists list u held is small = held_within n sets taken lists list u (set_dual sets) held is (λ j b. small j no_given b)

pub shared-within : (n : ℕ) (sets : List OddSet) (taken : List Bool) (lists : List (List ℕ)) (list : List ℕ) (u w : ℕ) → IsHolders n sets taken lists → list ≡ get_or lists u []
    → All (λ s. IsNumber s.dual) sets
    → ((neg_ℤ NUMBER_LIMIT *ℤ pos (length sets)) ≤ℤ sum_over (dual_with sets w) list) × (sum_over (dual_with sets w) list ≤ℤ (NUMBER_LIMIT *ℤ pos (length sets)))
shared-within n sets taken lists list u w held is small = held_within n sets taken lists list u (dual_with sets w) held is (λ j b. given_or_none (holds (given_at sets j).vertices w)
    (set_dual sets j) (small j no_given b))

-- both ends of an edge together

both_ends : (p q t : Bool) (d : ℤ) → cond (cond p (not q) q) (cond t d (pos 0)) (pos 0) ≡ (cond (t && p) (d -ℤ cond q d (pos 0)) (pos 0) +ℤ cond (t && q) (d -ℤ cond p d (pos 0)) (pos 0))
both_ends p q t d = grind (arith, ints, nat_tests)

pub crossed_ends : (sets : List OddSet) (taken : List Bool) (e : Edge) → crossed_at sets (taken_dual sets taken) (length sets) e ≡ (left_at sets taken e.u e.v +ℤ left_at sets taken e.v e.u)
crossed_ends sets taken e =
    int_sum_to-same (λ j. cond (crosses (given_at sets j).vertices e) (taken_dual sets taken j) (pos 0))
    (λ j. cond (is_held sets taken e.u j) (set_dual sets j -ℤ dual_with sets e.v j) (pos 0) +ℤ cond (is_held sets taken e.v j) (set_dual sets j -ℤ dual_with sets e.u j) (pos 0))
    (length sets) (λ j b. both_ends (holds (given_at sets j).vertices e.u) (holds (given_at sets j).vertices e.v) (is_marked taken j) (given_at sets j).dual)
    ∙ int_sum_to-add _ _ (length sets)

-- what the first n vertices give an edge: each that is an end of it gives f there
abbrev pub given_to : Edge → (ℕ → ℤ) → ℕ → ℤ
given_to e f n = int_sum_to (λ i. cond (touches e (i + 1)) (f (i + 1)) (pos 0)) n

one_of_two : (a b : Bool) (z : ℤ) → (a ≡ true → b ≡ false) → cond (a || b) z (pos 0) ≡ (cond a z (pos 0) +ℤ cond b z (pos 0))
one_of_two a b z off = grind (arith, ints, nat_tests)

given_twice : (e : Edge) (f : ℕ → ℤ) (n : ℕ) → is_loop e ≡ false → given_to e f n ≡ (int_sum_to (λ i. cond (eqb e.u (i + 1)) (f (i + 1)) (pos 0)) n +ℤ int_sum_to
    (λ i. cond (eqb e.v (i + 1)) (f (i + 1)) (pos 0)) n)
given_twice e f n plain =
    int_sum_to-same (λ i. cond (touches e (i + 1)) (f (i + 1)) (pos 0)) (λ i. cond (eqb e.u (i + 1)) (f (i + 1)) (pos 0) +ℤ cond (eqb e.v (i + 1)) (f (i + 1)) (pos 0)) n
    (λ i b. one_of_two (eqb e.u (i + 1)) (eqb e.v (i + 1)) (f (i + 1)) (λ h. sym (ap (λ (x : ℕ). eqb e.v x) (eqb-true e.u (i + 1) h)) ∙ eqb-turned e.v e.u ∙ plain))
    ∙ int_sum_to-add _ _ n

-- what one end has given so far: nothing, or all
end_within : (f : ℕ → ℤ) (u n : ℕ) (c : ℕ) → 1 ≤ u → (neg_ℤ (pos c) ≤ℤ f u) × (f u ≤ℤ pos c)
    → (neg_ℤ (pos c) ≤ℤ int_sum_to (λ i. cond (eqb u (i + 1)) (f (i + 1)) (pos 0)) n) × (int_sum_to (λ i. cond (eqb u (i + 1)) (f (i + 1)) (pos 0)) n ≤ℤ pos c)
end_within f u n c low small =
    elim (cases_lt n u) [
      | inl before ↦ let none = int_sum_to-at_none f u n before in (omega (arith, ints, none), omega (arith, ints, none))
      | inr after ↦ let all = int_sum_to-at_one f u n low after in (omega (arith, ints, all, small.0), omega (arith, ints, all, small.1))
    ]

pub given-within : (e : Edge) (f : ℕ → ℤ) (vertices n c : ℕ) → IsEdgeWithin vertices e → is_loop e ≡ false
    → (neg_ℤ (pos c) ≤ℤ f e.u) × (f e.u ≤ℤ pos c) → (neg_ℤ (pos c) ≤ℤ f e.v) × (f e.v ≤ℤ pos c)
    → (neg_ℤ (pos (c + c)) ≤ℤ given_to e f n) × (given_to e f n ≤ℤ pos (c + c))
given-within e f vertices n c within plain at_u at_v =
    let twice = given_twice e f n plain in
    let u = end_within f e.u n c within.u_low at_u in
    let v = end_within f e.v n c within.v_low at_v in
    (omega (arith, ints, twice, u.0, v.0), omega (arith, ints, twice, u.1, v.1))

-- one vertex more
pub given_more : (e : Edge) (f : ℕ → ℤ) (n : ℕ) → given_to e f (n + 1) ≡ (given_to e f n +ℤ cond (touches e (n + 1)) (f (n + 1)) (pos 0))
given_more e f n = int_sum_to-more (λ i. cond (touches e (i + 1)) (f (i + 1)) (pos 0)) n

-- all vertices together give an edge what it crosses of the taken sets
pub all_given : (sets : List OddSet) (taken : List Bool) (e : Edge) (n : ℕ) → IsEdgeWithin n e → is_loop e ≡ false → given_to e (λ w. left_at sets taken w (other_end e w)) n
    ≡ crossed_at sets (taken_dual sets taken) (length sets) e
all_given sets taken e n within plain =
    let f : ℕ → ℤ = λ w. left_at sets taken w (other_end e w) in
    given_twice e f n plain ∙ ap₂ (λ a b. a +ℤ b) (int_sum_to-at_one f e.u n within.u_low within.u_high) (int_sum_to-at_one f e.v n within.v_low within.v_high)
    ∙ ap₂ (λ a b. left_at sets taken e.u a +ℤ left_at sets taken e.v b) (other_end-u e) (ap (λ t. cond t e.v e.u) plain) ∙ sym (crossed_ends sets taken e)

pub nothing_given : (t : Bool) (a z : ℤ) → z ≡ pos 0 → a ≡ (a +ℤ cond t z (pos 0))
nothing_given t a z none = grind (arith, ints, nat_tests)

pub no_items : (xs : List ℕ) → length xs ≡ 0 → xs ≡ []
no_items [] none = refl
no_items (x ∷ xs) none = absurd (omega arith)
