-- The copies of the edges of an instance in the graph of two copies, and those that a list names.
use Rattle.std.specs.Prelude.{◌≡◌, ℕ, ◌+◌, ◌<◌, ◌≤◌, Bool, not, ◌&&◌, List, length, All}
use Rattle.std.specs.Prelude.{if◌then◌else◌}
use Rattle.std.specs.List.Sorted.{IsStrictlyIncreasing}
use Rattle.graph_theory.specs.Sums.{sum_to}
use Rattle.graph_theory.specs.Parts.{holds}
use Rattle.mb_problem.specs.Network.{Network}
use Rattle.mb_problem.specs.Size.{joins}

-- how many copies edge number k + 1 has, of those with both ends in the first copy of the graph and
-- in the second
abbrev pub copies_of : (ℕ → Bool) → (ℕ → Bool) → Network → ℕ → ℕ
copies_of one two i k = (if joins one i k then 1 else 0) + (if joins two i k then 1 else 0)

-- how many edges stand before its first copy, and before its second one
abbrev pub first_place : (ℕ → Bool) → (ℕ → Bool) → Network → ℕ → ℕ
first_place one two i k = sum_to (copies_of one two i) k

abbrev pub second_place : (ℕ → Bool) → (ℕ → Bool) → Network → ℕ → ℕ
second_place one two i k = first_place one two i k + (if joins one i k then 1 else 0)

-- it has such a copy, and this is listed
abbrev pub takes_first : (ℕ → Bool) → (ℕ → Bool) → Network → (ℕ → Bool) → ℕ → Bool
takes_first one two i listed k = joins one i k && listed (first_place one two i k + 1)

abbrev pub takes_second : (ℕ → Bool) → (ℕ → Bool) → Network → (ℕ → Bool) → ℕ → Bool
takes_second one two i listed k = joins two i k && listed (second_place one two i k + 1)

-- exactly one of its copies is listed
abbrev pub takes_one : (ℕ → Bool) → (ℕ → Bool) → Network → (ℕ → Bool) → ℕ → Bool
takes_one one two i listed k = if takes_first one two i listed k
    then not (takes_second one two i listed k) else takes_second one two i listed k

-- the edges of the instance of which the list has exactly one copy, ascending
pub record ListsSingles (one two : ℕ → Bool) (i : Network) (edges join : List ℕ) : Type 0 where
  pub ascending : IsStrictlyIncreasing join
  pub in_range : All (λ e. (1 ≤ e) × (e ≤ length i.edges)) join
  pub exact : (k : ℕ) → k < length i.edges → holds join (k + 1)
      ≡ takes_one one two i (holds edges) k
