-- The lines of a text, the fields of a line, and the numbers that fields spell.
use Rattle.std.specs.Prelude.{ℕ, ◌+◌, ◌-◌, ◌*◌, List, [], ◌∷◌, length, map, filter, Bool, true}
use Rattle.std.specs.Prelude.{false, ◌&&◌, ◌||◌, ◌==◌, nat_le, if◌then◌else◌, min, Option, None}
use Rattle.std.specs.Prelude.{Some, ℤ, pos, negsuc, neg_ℤ, nat_abs}
use Rattle.std.specs.List.{list_all, slice_split}
use Rattle.std.specs.Str.Lines.{strip_carriage_return}
use Rattle.std.specs.Option.{option_map}

-- ---- lines

abbrev pub is_line_feed : ℕ → Bool
is_line_feed b = b == 10

-- the parts but an empty last one
abbrev pub closed : List (List ℕ) → List (List ℕ)
closed [] = []
closed (x ∷ []) = if length x == 0 then [] else x ∷ []
closed (x ∷ y ∷ more) = x ∷ closed (y ∷ more)

-- the parts that line feeds end, and after the last one what is left, where that isn't empty
abbrev pub raw_lines : List ℕ → List (List ℕ)
raw_lines bytes = closed (slice_split is_line_feed bytes)

-- a line doesn't have the one carriage return at its end
abbrev pub lines : List ℕ → List (List ℕ)
lines bytes = map strip_carriage_return (raw_lines bytes)

-- ---- fields

abbrev pub is_blank : ℕ → Bool
is_blank b = (b == 32) || (b == 9)

abbrev pub is_nonempty : List ℕ → Bool
is_nonempty [] = false
is_nonempty (b ∷ bs) = true

-- the longest runs of bytes other than space and tab
abbrev pub fields : List ℕ → List (List ℕ)
fields line = filter is_nonempty (slice_split is_blank line)

-- ---- numbers

abbrev pub is_digit : ℕ → Bool
is_digit b = nat_le 48 b && nat_le b 57

-- the number that digits spell after those that spelled n
abbrev pub value_from : ℕ → List ℕ → ℕ
value_from n [] = n
value_from n (d ∷ ds) = value_from (10 * n + (d - 48)) ds

abbrev pub natural : List ℕ → Option ℕ
natural [] = None
natural (d ∷ ds) = if list_all is_digit (d ∷ ds) then Some (value_from 0 (d ∷ ds)) else None

-- an optional minus and one or more digits, nothing else
abbrev pub numeral : List ℕ → Option ℤ
numeral [] = None
numeral (b ∷ bs) = if b == 45 then option_map (λ n. neg_ℤ (pos n)) (natural bs)
    else option_map (λ n. pos n) (natural (b ∷ bs))

-- a value beyond the bound is the bound and one more, with its sign
abbrev pub clamped : ℕ → ℤ → ℤ
clamped bound (pos n) = pos (min n (bound + 1))
clamped bound (negsuc n) = negsuc (min n bound)

-- what a field that has to be a number within a bound is kept as
abbrev pub number_of : ℤ → List ℕ → Option ℤ
number_of bound field = option_map (clamped (nat_abs bound)) (numeral field)
