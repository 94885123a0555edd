-- The numbers that a linear congruential generator modulo 2^64 gives.
use Rattle.std.specs.Prelude.{ℕ, zero, suc, ◌+◌, ◌*◌, ◌/◌, ◌%◌, ◌^◌}
use Rattle.inst_gen.specs.declared.limits.TheConstants.{MULTIPLIER, INCREMENT}

abbrev pub next_state : ℕ → ℕ
next_state s = (s * MULTIPLIER + INCREMENT) % 2 ^ 64

-- the state after so many draws
abbrev pub state_after : ℕ → ℕ → ℕ
state_after s zero = s
state_after s (suc n) = next_state (state_after s n)

-- the number below k that is drawn in state s: the upper 31 bits of the state that comes, modulo k
abbrev pub drawn : ℕ → ℕ → ℕ
drawn k s = (next_state s / 2 ^ 33) % k
