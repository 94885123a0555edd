-- The next row of a text.
use Rattle.std.proofs.Common.{◌≡◌, ℕ, ◌+◌, ◌<◌, List, [], ◌∷◌, length, drop, get_or, inl, inr}
use Rattle.std.proofs.lemmas.Bool.{cases_lt}
use Rattle.std.proofs.lemmas.List.{drop_more, drop_all}
use Rattle.mb_base.specs.Rows.{Row}

pub next_row : (rs : List Row) (k : ℕ) (row : Row) (more : List Row) → drop k rs ≡ row ∷ more → (k < length rs) × (get_or rs k [] ≡ row) × (drop (k + 1) rs ≡ more)
next_row rs k row more e =
    elim (cases_lt k (length rs)) [
      | inl lt ↦ let f = drop_more rs k [] lt in (lt, cc, cc)
      | inr le ↦ let f = drop_all k rs le in absurd cc
    ]
