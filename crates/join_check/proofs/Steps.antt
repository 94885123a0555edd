-- Steps of loops that add up terms, and numbers as they are read.
use Rattle.mb_problem.proofs.Common.{◌≡◌, ℕ, ◌+◌, ◌<◌, ℤ, pos, ◌+ℤ◌, ◌≤ℤ◌, cond, eqb, sym, ◌∙◌, arith, ints, List, length, slice_index, of_z, to_z, w64, int_sum_to, int_sum_to-more}
use Rattle.mb_problem.proofs.Common.{IsWeight, ap, inl, inr, subst, cases_eq, set, get_or-set_same, get_or-set_other}
use Rattle.join_check.specs.Checks.{at, AreLengths, IsLength}
use Rattle.join_check.proofs.Totals.{no-length}

-- a length is read as it is
pub fits-read : (z : ℤ) → IsLength z → to_z w64 (of_z w64 z) ≡ z
fits-read z small = omega (arith, ints, small.0, small.1)

-- a running sum and the next term are the longer sum
pub sum-next : (f : ℕ → ℤ) (n : ℕ) (s x : ℤ) → s ≡ int_sum_to f n → x ≡ f n → s +ℤ x ≡ int_sum_to f (n + 1)
sum-next f n s x so_far next = omega (arith, ints, so_far, next, int_sum_to-more f n)

-- the outside begins nowhere
pub start-none : (lengths : List ℤ) (befores : List ℕ) (x : ℕ) → AreLengths lengths → pos 0 ≡ int_sum_to (λ b. cond (eqb (slice_index befores b) x) (at lengths b) (pos 0)) 1
start-none lengths befores x are =
    let first = int_sum_to-more (λ b. cond (eqb (slice_index befores b) x) (at lengths b) (pos 0)) 0 in
    omega (arith, ints, first, no-length (eqb (slice_index befores 0) x) (at lengths 0) are.outside)

pub sum-step : (f : ℕ → ℤ) (n : ℕ) (s x t : ℤ) → s ≡ int_sum_to f n → x ≡ f n → t ≡ s +ℤ x → t ≡ int_sum_to f (n + 1)
sum-step f n s x t so_far next is = is ∙ sum-next f n s x so_far next

-- a length between a height and a top is read as it is, and so is the height
pub within-read : (l h t : ℤ) → pos 0 ≤ℤ h → h ≤ℤ l → l ≤ℤ t → IsLength t → (to_z w64 (of_z w64 l) ≡ l) × (to_z w64 (of_z w64 h) ≡ h)
within-read l h t low high above small =
    (fits-read l (omega (arith, ints, low, high), omega (arith, ints, above, small.1)), fits-read h (low, omega (arith, ints, high, above, small.1)))

-- one item more is as it should be

pub set-each : (xs : List ℤ) (f : ℕ → ℤ) (k j : ℕ) (new : ℤ) → k < length xs → new ≡ f k → ((i : ℕ) → i < k → at xs i ≡ f i) → j < k + 1 → at (set xs k new) j ≡ f j
set-each xs f k j new inside is each b =
    elim (cases_eq j k) [
      | inl e ↦ ap (at (set xs k new)) e ∙ get_or-set_same xs k new (pos 0) inside ∙ is ∙ ap f (sym e)
      | inr d ↦ get_or-set_other xs k j new (pos 0) d ∙ each j (omega arith)
    ]

pub set-small : (xs : List ℤ) (k j : ℕ) (new : ℤ) → k < length xs → IsLength new → ((i : ℕ) → i < k → IsLength (at xs i)) → j < k + 1 → IsLength (at (set xs k new) j)
set-small xs k j new inside small each b =
    elim (cases_eq j k) [
      | inl e ↦ subst IsLength (sym (ap (at (set xs k new)) e ∙ get_or-set_same xs k new (pos 0) inside)) small
      | inr d ↦ subst IsLength (sym (get_or-set_other xs k j new (pos 0) d)) (each j (omega arith))
    ]

-- a weight is read as it is
pub weight-read : (w : ℤ) → IsWeight w → to_z w64 (of_z w64 w) ≡ w
weight-read w small = omega (arith, ints, small.0, small.1)
