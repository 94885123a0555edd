-- Lines that lack form, by their numbers among the z lines, from 1.
use Rattle.std.specs.Prelude.{◌≡◌, ℕ, ◌+◌, ◌-◌, ◌<◌, ◌≤◌, true, List, slice_index_or}
use Rattle.doc_format.specs.declared.part.SetLine.{SetLine}
use Rattle.certificates.specs.Certificates.{vertices_first}

-- no vertex comes after a reference on the z line at a place
abbrev pub IsSorted : List SetLine → ℕ → Type 0
IsSorted lines k = (z : SetLine) → z ≡ slice_index_or lines k z → vertices_first z.items ≡ true

-- the first of n that lacks something has this number
pub record IsFirstNumber (Has : ℕ → Type 0) (n number : ℕ) : Type 0 where
  pub low : 1 ≤ number
  pub high : number ≤ n
  pub lacks : ¬ Has (number - 1)
  pub before : (j : ℕ) → j + 1 < number → Has j
