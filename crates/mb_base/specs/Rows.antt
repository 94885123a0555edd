-- A text as rows: for each of its lines the list of its fields. Instances and documents are read
-- so.
use Rattle.std.specs.Prelude.{ℕ, List, [], ◌∷◌, map, Bool, true, false, ◌==◌, slice_index_or}
use Rattle.std.specs.Str.{bytes_eq}
use Rattle.mb_base.specs.Text.{lines, fields}

abbrev pub Row : Type 0
Row = List (List ℕ)

abbrev pub rows : List ℕ → List Row
rows bytes = map fields (lines bytes)

-- field number k of a row, from 0, and no bytes if there is none
abbrev pub field_at : Row → ℕ → List ℕ
field_at row k = slice_index_or row k []

-- the first field is exactly this text
abbrev pub begins_with : List ℕ → Row → Bool
begins_with text [] = false
begins_with text (first ∷ others) = bytes_eq first text

abbrev pub starts_with_c : List ℕ → Bool
starts_with_c [] = false
starts_with_c (b ∷ bs) = b == 99

-- a blank line, or a comment: a line whose first field begins with c
abbrev pub is_skipped : Row → Bool
is_skipped [] = true
is_skipped (first ∷ others) = starts_with_c first
