-- Joins, and the components that exclude them (Schrijver, Combinatorial Optimization, volume A,
-- chapter 29).
use Rattle.std.specs.Prelude.{◌≡◌, ℕ, ◌%◌, ◌≤◌, ◌==◌, Bool, true, List, []}
use Rattle.std.specs.Prelude.{count_by, slice_index, None, Some}
use Rattle.graph_theory.specs.Graph.{Multigraph}
use Rattle.graph_theory.specs.Parts.{holds, IsOddPart}
use Rattle.graph_theory.specs.Barrier.{IsComponent}
use Rattle.mb_problem.specs.declared.answer.Parity.{Parity}
use Rattle.mb_problem.specs.Network.{Network, graph_of}
use Rattle.mb_problem.specs.Size.{odd_at}
use Rattle.mb_problem.specs.Joins.{IsJoinOf, ListsJoin}
use Rattle.graph_parts.specs.Marks.{ListsMarked}
use Rattle.graph_parts.specs.Flags.{IsFirstMarked}
use Rattle.graph_parts.specs.declared.joins.JoinOrOdd.{JoinOrOdd}
use Rattle.graph_parts.specs.declared.joins.JoinOrOdd.TheVariants.{Join, OddSet}

-- the vertices at which a join of this parity has odd degree
abbrev pub is_terminal : Parity → Network → ℕ → Bool
is_terminal parity i v = odd_at parity i v == 1

-- of the components that hold an odd number of these vertices the one with the least vertex
pub record IsFirstOddPart (g : Multigraph) (terminal : ℕ → Bool) (set : List ℕ) : Type 0 where
  pub part : IsOddPart g terminal set
  pub component : IsComponent g [] set
  pub least : (other : List ℕ) → IsComponent g [] other → count_by terminal other % 2 ≡ 1
      → slice_index set 0 ≤ slice_index other 0

-- a join; or the first odd part, and then there is no join
abbrev pub IsJoinOrOdd : Parity → Network → JoinOrOdd → Type 0
IsJoinOrOdd parity i (Join join) = ListsJoin i (odd_at parity i) join.edges
IsJoinOrOdd parity i (OddSet part) = IsFirstOddPart (graph_of i) (is_terminal parity i) part
    × ((counts : List ℕ) → IsJoinOf parity i counts → ⊥)

-- the join of the edges that are taken, if there is no flag; else the component of the first flag
abbrev pub IsOutcome : Multigraph → List Bool → List Bool → JoinOrOdd → Type 0
IsOutcome g flags taken (Join join) = IsFirstMarked flags None × ListsMarked taken join.edges
IsOutcome g flags taken (OddSet part) = IsComponent g [] part
    × ((root : ℕ) × IsFirstMarked flags (Some root) × (holds part root ≡ true))
