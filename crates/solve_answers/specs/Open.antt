-- What is known of an instance before a search: nothing that is seen without one excludes all
-- answers.
use Rattle.std.specs.Prelude.{◌≡◌, true, ⊤}
use Rattle.mb_problem.specs.declared.kind.Kind.{Kind}
use Rattle.mb_problem.specs.declared.kind.Obstruction.{Obstruction}
use Rattle.mb_problem.specs.declared.kind.Obstruction.TheVariants.{Barrier, OddPart, SplitPart}
use Rattle.mb_problem.specs.declared.kind.Obstruction.TheVariants.{Never}
use Rattle.mb_problem.specs.declared.answer.Parity.TheVariants.{Values}
use Rattle.mb_problem.specs.Kinds.{obstruction_of, asks_conservative}
use Rattle.mb_problem.specs.Network.{Network, graph_of}
use Rattle.mb_problem.specs.Joins.{HasJoin, HasNoNegativeEvenSet}
use Rattle.mb_problem.specs.Ready.{HasNeededEnds, HasNeededWeights}
use Rattle.graph_parts.specs.Connected.{HasConnectedEdges}

-- no part excludes all answers
abbrev pub HasNoPartFor : Obstruction → Network → Type 0
HasNoPartFor Barrier i = ⊤
HasNoPartFor OddPart i = HasJoin Values i
HasNoPartFor SplitPart i = HasConnectedEdges (graph_of i)
HasNoPartFor Never i = ⊤

-- no part excludes all answers; there are ends where they are needed; no edge weighs less than 0 if
-- that is needed, and no set of edges with even degrees where weights have to be conservative
pub record IsOpen (kind : Kind) (i : Network) : Type 0 where
  pub no_part : HasNoPartFor (obstruction_of kind) i
  pub ends : HasNeededEnds kind i
  pub weights : HasNeededWeights kind i
  pub even_sets : asks_conservative kind ≡ true → HasNoNegativeEvenSet i
