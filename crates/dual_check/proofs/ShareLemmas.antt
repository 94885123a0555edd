-- Lemmas on totals at vertices and edges that are added to, one place after the other.
use Rattle.graph_theory.proofs.Common.{◌≡◌, arith, ℕ, zero, suc, ◌<◌, ◌≤◌, ◌^◌, ℤ, pos, neg_ℤ, ◌-ℤ◌, ◌*ℤ◌, ◌≤ℤ◌, All, Bool, cond, List, length}
use Rattle.graph_theory.proofs.Common.{to_z, of_z, w128, sym, subst, ◌+ℤ◌, get_or, ints, nat_tests, int_sum_to, holds, IsNumber, given_at, no_given}
use Rattle.graph_theory.specs.declared.odd_set.OddSet.{OddSet}
use Rattle.graph_theory.specs.declared.limits.TheConstants.{NUMBER_LIMIT}
use Rattle.dual_check.specs.Crossed.{IsWithin}
use Rattle.dual_check.specs.Shared.{set_dual, dual_with}

pub given_or_none : (t : Bool) (a : ℤ) → IsNumber a → IsNumber (cond t a (pos 0))
given_or_none t a h = grind (arith, ints, nat_tests)

pub none_or_given : (t : Bool) (a : ℤ) → IsNumber a → IsNumber (cond t (pos 0) a)
none_or_given t a h = grind (arith, ints, nat_tests)

pub sum_minus : (f g : ℕ → ℤ) (n : ℕ) → int_sum_to (λ k. f k -ℤ g k) n ≡ (int_sum_to f n -ℤ int_sum_to g n)
sum_minus f g zero = omega (arith, ints)
sum_minus f g (suc n) = let r = sum_minus f g n in omega (arith, ints, r)

-- a sum of n numbers of a document
pub sum-within : (f : ℕ → ℤ) (n : ℕ) → ((a : ℕ) → a < n → IsNumber (f a)) → ((neg_ℤ NUMBER_LIMIT *ℤ pos n) ≤ℤ int_sum_to f n) × (int_sum_to f n ≤ℤ (NUMBER_LIMIT *ℤ pos n))
sum-within f zero small = (omega (arith, ints), omega (arith, ints))
sum-within f (suc n) small =
    let r = sum-within f n (λ a b. small a (omega arith)) in
    let s : IsNumber (f n) = small n (omega arith) in
    (omega (arith, ints, r.0, s.0), omega (arith, ints, r.1, s.1))

-- what is a sum of no more than 2 ^ 64 duals
pub sum-small : (n : ℕ) (a z : ℤ) → n ≤ 2 ^ 64 → z ≡ a → ((neg_ℤ NUMBER_LIMIT *ℤ pos n) ≤ℤ a) × (a ≤ℤ (NUMBER_LIMIT *ℤ pos n)) → IsWithin 1 z
sum-small n a z few is r = (omega (arith, ints, few, is, r.0), omega (arith, ints, few, is, r.1))

-- totals that sums of duals are added to

pub within-changed : (a d z : ℤ) → z ≡ (a +ℤ d) → IsWithin 1 a → IsWithin 2 d → IsWithin 3 z
within-changed a d z is small more = (omega (arith, ints, is, small.0, more.0), omega (arith, ints, is, small.1, more.1))

pub within-apart : (a p q z : ℤ) → z ≡ (a +ℤ (p -ℤ q)) → IsWithin 1 (a -ℤ q) → IsWithin 1 p → IsWithin 3 z
within-apart a p q z is small more = (omega (arith, ints, is, small.0, more.0), omega (arith, ints, is, small.1, more.1))

pub within-same : (a r s z : ℤ) → z ≡ (a +ℤ r) → r ≡ s → IsWithin 1 a → IsWithin 1 (z -ℤ s)
within-same a r s z is same small = (omega (arith, ints, is, same, small.0), omega (arith, ints, is, same, small.1))

pub added_up : (old now new p q r s : ℤ) → new ≡ (now +ℤ (q -ℤ p)) → now ≡ (old +ℤ r) → r ≡ p → s ≡ q → new ≡ (old +ℤ s)
added_up old now new p q r s last so_far down past = omega (arith, ints, last, so_far, down, past)

-- what is read of a difference of two sums of duals
pub read_whole : (a : ℤ) → IsWithin 2 a → to_z w128 (of_z w128 a) ≡ a
read_whole a small = omega (arith, ints, small.0, small.1)

pub read_within : (a : ℤ) → IsWithin 2 a → IsWithin 2 (to_z w128 (of_z w128 a))
read_within a small = subst (IsWithin 2) (sym (read_whole a small)) small

-- the dual of a set of the list
pub listed_dual : (sets : List OddSet) (list : List ℕ) (a : ℕ) → All (λ s. IsNumber s.dual) sets → All (λ j. j < length sets) list → a < length list
    → IsNumber (set_dual sets (get_or list a 0))
listed_dual sets list a small in_range b = small (get_or list a 0) no_given (in_range a 0 b)

pub listed_with : (sets : List OddSet) (list : List ℕ) (v a : ℕ) → All (λ s. IsNumber s.dual) sets → All (λ j. j < length sets) list → a < length list
    → IsNumber (dual_with sets v (get_or list a 0))
listed_with sets list v a small in_range b = given_or_none (holds (given_at sets (get_or list a 0)).vertices v) (set_dual sets (get_or list a 0)) (listed_dual sets list a small in_range b)
