-- Where each block starts, where blocks of given sizes follow one another.
use Rattle.std.specs.Prelude.{◌≡◌, ℕ, ◌+◌, ◌≤◌, List, length, slice_index}
use Rattle.graph_theory.specs.Sums.{sum_to}

-- at place k the sizes of the blocks before number k, added up; at the end the sizes of all n
pub record AreStarts (size : ℕ → ℕ) (n : ℕ) (starts : List ℕ) : Type 0 where
  pub one_more : length starts ≡ n + 1
  pub each : (k : ℕ) → k ≤ n → slice_index starts k ≡ sum_to size k
