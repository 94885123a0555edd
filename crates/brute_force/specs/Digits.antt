-- Lists of counts as numbers: each count is a digit of its own base.
use Rattle.std.specs.Prelude.{ℕ, ◌+◌, ◌*◌, ◌/◌, ◌%◌, List, [], ◌∷◌}

-- the digits of a number, the first the lowest: each goes from 0 to the one of `mosts` at its place
abbrev pub digits : List ℕ → ℕ → List ℕ
digits [] number = []
digits (most ∷ mosts) number = number % (most + 1) ∷ digits mosts (number / (most + 1))

-- how many lists of such digits there are
abbrev pub digit_lists : List ℕ → ℕ
digit_lists [] = 1
digit_lists (most ∷ mosts) = digit_lists mosts * (most + 1)
