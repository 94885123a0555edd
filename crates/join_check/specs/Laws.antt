-- What a forest of lengths proves, as a fact about all instances.
use Rattle.std.specs.Prelude.{ℕ, List}
use Rattle.mb_problem.specs.declared.answer.Parity.{Parity}
use Rattle.mb_problem.specs.Network.{Network, IsNetwork}
use Rattle.join_check.specs.declared.levels.Levels.{Levels}
use Rattle.join_check.specs.Forests.{ProvesJoin}
use Rattle.join_check.specs.Least.{IsLeastJoin}

-- a join and a forest that prove each other: no join of this parity weighs less (chapter 29)
abbrev pub ForestsProveJoins : Type 0
ForestsProveJoins = (parity : Parity) (i : Network) (edges : List ℕ) (f : Levels) → IsNetwork i
    → ProvesJoin parity i edges f → IsLeastJoin parity i edges
