-- Numbers that were met, as one mark for each.
use Rattle.std.specs.Prelude.{◌≡◌, ℕ, ◌+◌, ◌<◌, Bool, false, List, length, slice_index_or}
use Rattle.graph_theory.specs.Parts.{holds}

-- for each of the numbers 1 to n a mark: whether it is in the list
pub record AreMarks (n : ℕ) (marks : List Bool) (numbers : List ℕ) : Type 0 where
  pub one_each : length marks ≡ n
  pub each : (k : ℕ) → k < n → slice_index_or marks k false ≡ holds numbers (k + 1)
