-- Joins for each of the three parities, and what the graph of ports says of them (Schrijver,
-- Combinatorial Optimization, volume A, chapter 29).
use Rattle.std.specs.Prelude.{◌≡◌, ℕ, ℤ, List}
use Rattle.graph_theory.specs.Graph.{Multigraph, weight, IsPerfect}
use Rattle.mb_problem.specs.declared.answer.Parity.{Parity}
use Rattle.mb_problem.specs.Network.{Network, graph_of}
use Rattle.mb_problem.specs.Size.{odd_at}
use Rattle.mb_problem.specs.Joins.{IsJoinOf}
use Rattle.gadget_base.specs.Gadgets.{ports_graph}

-- a perfect matching of this weight
pub record HasPerfect (g : Multigraph) (w : ℤ) : Type 0 where
  pub counts : List ℕ
  pub perfect : IsPerfect g counts
  pub weighs : weight g counts ≡ w

-- each join has a perfect matching of the graph of ports with its weight
abbrev pub ReachesJoins : Parity → Network → Type 0
ReachesJoins parity i = (counts : List ℕ) → IsJoinOf parity i counts
    → HasPerfect (ports_graph i (odd_at parity i)) (weight (graph_of i) counts)
