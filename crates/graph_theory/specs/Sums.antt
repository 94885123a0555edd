-- Sums over the first numbers, of natural and of whole terms.
use Rattle.std.specs.Prelude.{ℕ, zero, suc, ◌+◌, ℤ, pos, ◌+ℤ◌}

-- f 0 + .. + f (n - 1)
abbrev pub sum_to : (ℕ → ℕ) → ℕ → ℕ
sum_to f zero = 0
sum_to f (suc n) = sum_to f n + f n

-- f 0 + .. + f (n - 1)
abbrev pub int_sum_to : (ℕ → ℤ) → ℕ → ℤ
int_sum_to f zero = pos 0
int_sum_to f (suc n) = int_sum_to f n +ℤ f n
