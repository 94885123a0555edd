-- Words that stand as one field in a line of text.
use Rattle.std.specs.Prelude.{ℕ, ◌<◌, ◌==◌, ◌&&◌, not, Bool, true, ◌≡◌, List, length}
use Rattle.std.specs.List.{list_all}
use Rattle.mb_base.specs.Text.{is_blank}

-- a byte that ends neither a field nor a line
abbrev pub is_plain : ℕ → Bool
is_plain b = not (is_blank b) && (not (b == 10) && not (b == 13))

-- one field: some bytes, all of them plain
abbrev pub IsField : List ℕ → Type 0
IsField text = (0 < length text) × (list_all is_plain text ≡ true)
