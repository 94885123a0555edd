-- Joins (chapter 29): sets of edges by the parity of their degrees.
use Rattle.std.specs.Prelude.{◌≡◌, ℕ, ◌%◌, ◌==◌, pos, ◌≤ℤ◌, List, length, All, map, if◌then◌else◌}
use Rattle.std.specs.List.{range_with_len}
use Rattle.std.specs.List.Sorted.{IsStrictlyIncreasing}
use Rattle.graph_theory.specs.Graph.{IsEdgeNumber, weight}
use Rattle.graph_theory.specs.Parts.{holds}
use Rattle.mb_problem.specs.declared.answer.Parity.{Parity}
use Rattle.mb_problem.specs.declared.answer.Parity.TheVariants.{Empty}
use Rattle.mb_problem.specs.Network.{Network, graph_of}
use Rattle.mb_problem.specs.Feasible.{HasCounts, AtMostOnce, DegreesMeet}
use Rattle.mb_problem.specs.Size.{odd_at}

-- counts 0 or 1, whose degree at each vertex v has the parity `odd v`
pub record IsOddJoin (i : Network) (odd : ℕ → ℕ) (counts : List ℕ) : Type 0 where
  pub one_each : HasCounts i counts
  pub at_most_once : AtMostOnce counts
  pub degrees : DegreesMeet i counts (λ v d. d % 2 ≡ odd v)

-- counts 0 or 1, with an odd degree exactly if the parity asks for one
abbrev pub IsJoinOf : Parity → Network → List ℕ → Type 0
IsJoinOf parity i counts = IsOddJoin i (odd_at parity i) counts

-- there is a join of this parity
abbrev pub HasJoin : Parity → Network → Type 0
HasJoin parity i = (counts : List ℕ) × IsJoinOf parity i counts

-- for each of the first m edges 1 where its number is listed, and 0 elsewhere
abbrev pub listed_counts : List ℕ → ℕ → List ℕ
listed_counts edges m = map (λ e. if holds edges e then 1 else 0) (range_with_len 1 m)

-- an ascending list of numbers of edges, whose degree at each vertex v has the parity `odd v`
pub record ListsJoin (i : Network) (odd : ℕ → ℕ) (edges : List ℕ) : Type 0 where
  pub ascending : IsStrictlyIncreasing edges
  pub in_range : All (IsEdgeNumber (graph_of i)) edges
  pub join : IsOddJoin i odd (listed_counts edges (length i.edges))

-- the parity of a path's edges: odd at its two ends
abbrev pub odd_between : ℕ → ℕ → ℕ → ℕ
odd_between s t v = if v == s then 1 else (if v == t then 1 else 0)

-- no set of edges with even degrees weighs less than 0
abbrev pub HasNoNegativeEvenSet : Network → Type 0
HasNoNegativeEvenSet i = (counts : List ℕ) → IsJoinOf Empty i counts
    → pos 0 ≤ℤ weight (graph_of i) counts
