-- Joins of least weight (chapter 29).
use Rattle.std.specs.Prelude.{ℕ, ◌≤ℤ◌, List}
use Rattle.graph_theory.specs.Graph.{weight}
use Rattle.graph_theory.specs.Walk.{walk_weight}
use Rattle.mb_problem.specs.declared.answer.Parity.{Parity}
use Rattle.mb_problem.specs.Network.{Network, graph_of}
use Rattle.mb_problem.specs.Size.{odd_at}
use Rattle.mb_problem.specs.Joins.{IsJoinOf, ListsJoin}

-- a join of this parity, and none weighs less
pub record IsLeastJoin (parity : Parity) (i : Network) (edges : List ℕ) : Type 0 where
  pub join : ListsJoin i (odd_at parity i) edges
  pub least : (counts : List ℕ) → IsJoinOf parity i counts
      → walk_weight (graph_of i) edges ≤ℤ weight (graph_of i) counts
