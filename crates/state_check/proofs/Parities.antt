-- Parities of sums, and of the dual sums of all vertices whose nodes are exposed.
use Rattle.alt_forest.proofs.Common.{◌≡◌, ◌≢◌, ℕ, zero, suc, ℤ, pos, negsuc, ◌+ℤ◌, ◌-ℤ◌, Bool, true, false, not, cond, List, [], ◌∷◌, ◌++◌, refl, sym}
use Rattle.alt_forest.proofs.Common.{ap, ◌∙◌, subst, arith, ⊎_elim, inl, inr, ◌⊎◌, ◌≤ℤ◌, ints, holds, Blossom, chain_of, State, held_by, dual_sum, ExposedAgree}
use Rattle.alt_forest.proofs.Common.{total_of, parity_sym, parity_trans}
use Rattle.state_check.specs.Checks.{HasParity, DualSumsHave}

pushed : (y : ℕ → ℤ) (xs : List ℕ) (a : ℕ) → total_of y (xs ++ a ∷ []) ≡ total_of y xs +ℤ y a
pushed y [] a = omega (arith, ints)
pushed y (x ∷ xs) a = let rest : total_of y (xs ++ a ∷ []) ≡ total_of y xs +ℤ y a = pushed y xs a in omega (arith, ints)

-- the duals of a chain, added up, are the dual sum
pub chain_total : (y : ℕ → ℤ) (bs : List Blossom) (v : ℕ) → y v +ℤ held_by y bs v ≡ total_of y (chain_of bs v)
chain_total y [] v = refl
chain_total y (b ∷ older) v = by_test (chain_total y older v) (holds b.members v)
  where
    by_test : y v +ℤ held_by y older v ≡ total_of y (chain_of older v) → (t : Bool) → y v +ℤ (cond t (y b.node) (pos 0) +ℤ held_by y older v) ≡ total_of y
        (cond t (chain_of older v ++ b.node ∷ []) (chain_of older v))
    by_test rest true = omega (arith, ints, pushed y (chain_of older v) b.node, rest)
    by_test rest false = omega (arith, ints, rest)

-- each number is odd or even
natural : (n : ℕ) → HasParity (pos n) true ⊎ HasParity (pos n) false
natural zero = inr (pos 0, omega (arith, ints))
natural (suc n) = ⊎_elim
    (λ odd. let h : ℤ = odd.0 in let e : pos n ≡ pos 1 +ℤ (h +ℤ h) = odd.1 in inr (h +ℤ pos 1, omega (arith, ints)))
    (λ even. let h : ℤ = even.0 in let e : pos n ≡ pos 0 +ℤ (h +ℤ h) = even.1 in inl (h, omega (arith, ints)))
    (natural n)

pub odd_or_even : (x : ℤ) → HasParity x true ⊎ HasParity x false
odd_or_even (pos n) = natural n
odd_or_even (negsuc n) = ⊎_elim
    (λ odd. let h : ℤ = odd.0 in let e : pos n ≡ pos 1 +ℤ (h +ℤ h) = odd.1 in inr ((pos 0 -ℤ h) -ℤ pos 1, omega (arith, ints)))
    (λ even. let h : ℤ = even.0 in let e : pos n ≡ pos 0 +ℤ (h +ℤ h) = even.1 in inl ((pos 0 -ℤ h) -ℤ pos 1, omega (arith, ints)))
    (natural n)

-- and not both
-- one number more in a sum
pub odd_more : (y x : ℤ) → HasParity y true → (q : Bool) → HasParity x q → HasParity (y +ℤ x) (not q)
odd_more y x h true k = let a : ℤ = h.0 in let b : ℤ = k.0 in let e : y ≡ pos 1 +ℤ (a +ℤ a) = h.1 in let f : x ≡ pos 1 +ℤ (b +ℤ b) = k.1 in ((a +ℤ b) +ℤ pos 1, omega (arith, ints))
odd_more y x h false k = let a : ℤ = h.0 in let b : ℤ = k.0 in let e : y ≡ pos 1 +ℤ (a +ℤ a) = h.1 in let f : x ≡ pos 0 +ℤ (b +ℤ b) = k.1 in (a +ℤ b, omega (arith, ints))

pub even_more : (y x : ℤ) → HasParity y false → (q : Bool) → HasParity x q → HasParity (y +ℤ x) q
even_more y x h true k = let a : ℤ = h.0 in let b : ℤ = k.0 in let e : y ≡ pos 0 +ℤ (a +ℤ a) = h.1 in let f : x ≡ pos 1 +ℤ (b +ℤ b) = k.1 in (a +ℤ b, omega (arith, ints))
even_more y x h false k = let a : ℤ = h.0 in let b : ℤ = k.0 in let e : y ≡ pos 0 +ℤ (a +ℤ a) = h.1 in let f : x ≡ pos 0 +ℤ (b +ℤ b) = k.1 in (a +ℤ b, omega (arith, ints))

-- what is left of a chain: the dual sum is the sum so far, of this parity, and the rest
pub record IsSummed (y : ℕ → ℤ) (all : ℤ) (odd : Bool) (rest : List ℕ) : Type 0 where
  pub sum : ℤ
  pub parity : HasParity sum odd
  pub whole : all ≡ sum +ℤ total_of y rest

pub chain_summed : (y : ℕ → ℤ) (bs : List Blossom) (v : ℕ) (rest : List ℕ) → rest ≡ chain_of bs v → IsSummed y (y v +ℤ held_by y bs v) false rest
chain_summed y bs v rest is = record {
  sum = pos 0;
  parity = (pos 0, omega (arith, ints));
  whole = chain_total y bs v ∙ ap (total_of y) (sym is) ∙ plain (total_of y rest);
}
  where
    plain : (x : ℤ) → x ≡ pos 0 +ℤ x
    plain x = omega (arith, ints)

pub one_summed : (y : ℕ → ℤ) (all : ℤ) (odd : Bool) (rest : List ℕ) (a : ℕ) (left : List ℕ) (dual : ℤ) (next : Bool) → rest ≡ a ∷ left → dual ≡ y a
    → ((x : ℤ) → HasParity x odd → HasParity (x +ℤ dual) next) → IsSummed y all odd rest → IsSummed y all next left
one_summed y all odd rest a left dual next is one more h = record {
  sum = h.sum +ℤ dual;
  parity = more h.sum h.parity;
  whole = h.whole ∙ ap (λ (xs : List ℕ). h.sum +ℤ total_of y xs) is ∙ plain h.sum (y a) dual (total_of y left) one;
}
  where
    plain : (s x d t : ℤ) → d ≡ x → s +ℤ (x +ℤ t) ≡ (s +ℤ d) +ℤ t
    plain s x d t e = omega (arith, ints)

pub all_summed : (y : ℕ → ℤ) (all : ℤ) (odd : Bool) (rest : List ℕ) → rest ≡ [] → IsSummed y all odd rest → HasParity all odd
all_summed y all odd rest none h = subst (λ (x : ℤ). HasParity x odd) (sym (h.whole ∙ ap (λ (xs : List ℕ). h.sum +ℤ total_of y xs) none ∙ plain h.sum)) h.parity
  where
    plain : (x : ℤ) → x +ℤ pos 0 ≡ x
    plain x = omega (arith, ints)

-- what is left when a number is halved tells its parity
pub left_some : (x left half : ℤ) → x ≡ left +ℤ (half +ℤ half) → negsuc 0 ≤ℤ left → left ≤ℤ pos 1 → left ≢ pos 0 → HasParity x true
left_some x left half is low high some = ⊎_elim
    (λ odd. odd)
    (λ even. let k : ℤ = even.0 in let e : x ≡ pos 0 +ℤ (k +ℤ k) = even.1 in let none : left ≡ pos 0 = omega (arith, ints) in absurd (some none))
    (odd_or_even x)

-- dual sums of one parity agree
pub agree_by : (s : State) (odd : Bool) → DualSumsHave s odd → ExposedAgree s
agree_by s odd have v w iv iw v_free w_free = parity_trans (dual_sum s v) (cond odd (pos 1) (pos 0)) (dual_sum s w) (have v iv v_free)
    (parity_sym (dual_sum s w) (cond odd (pos 1) (pos 0)) (have w iw w_free))

-- and dual sums that agree are even, if they aren't odd
pub agree_even : (s : State) → ExposedAgree s → (DualSumsHave s true → ⊥) → DualSumsHave s false
agree_even s agree not_odd v iv v_free = ⊎_elim
    (λ odd. absurd (not_odd (λ w iw w_free. parity_trans (dual_sum s w) (dual_sum s v) (pos 1) (agree w v iw iv w_free v_free) odd)))
    (λ even. even)
    (odd_or_even (dual_sum s v))
