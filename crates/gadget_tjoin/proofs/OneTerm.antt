-- Terms that a test makes 0 or 1, and even sums.
use Rattle.graph_theory.proofs.Common.{◌≡◌, ℕ, zero, suc, ◌%◌, ◌<◌, refl, arith, sum_to}

-- terms that are even have an even sum
pub sum_to-even : (f : ℕ → ℕ) (n : ℕ) → ((k : ℕ) → k < n → f k % 2 ≡ 0) → sum_to f n % 2 ≡ 0
sum_to-even f zero h = refl
sum_to-even f (suc n) h =
    let front = sum_to-even f n (λ k b. h k (omega arith)) in
    let last = h n (omega arith) in
    omega (arith, front, last)
