-- The first thing that is found.
use Rattle.std.specs.Prelude.{ℕ, zero, suc, Option, None}
use Rattle.std.specs.Option.{option_or}

-- what is found at the first of n indexes at which something is
abbrev pub first_of : {A : Type 0} → (ℕ → Option A) → ℕ → Option A
first_of found_at zero = None
first_of found_at (suc n) = option_or (first_of found_at n) (found_at n)
