-- The weight of a least tour by its joins (chapter 29): each edge once, and once more the edges of
-- a least join.
use Rattle.std.specs.Prelude.{◌≡◌, ℕ, ◌+◌, ℤ, ◌≤ℤ◌, List, [], map, Option, Some, None}
use Rattle.graph_theory.specs.Graph.{weight}
use Rattle.mb_problem.specs.declared.answer.Answer.{Answer}
use Rattle.mb_problem.specs.declared.answer.Answer.TheVariants.{Counts, Walk, Nothing}
use Rattle.mb_problem.specs.declared.answer.Parity.TheVariants.{OddDegrees}
use Rattle.mb_problem.specs.Joins.{IsJoinOf}
use Rattle.mb_problem.specs.Network.{Network, graph_of}

-- a join at the vertices of odd degree that no such join undercuts
pub record IsLeastOddJoin (i : Network) (counts : List ℕ) : Type 0 where
  pub join : IsJoinOf OddDegrees i counts
  pub least : (others : List ℕ) → IsJoinOf OddDegrees i others
      → weight (graph_of i) counts ≤ℤ weight (graph_of i) others

-- the edges of a least join used twice and the others once weigh this
pub record IsLeastTourWeight (i : Network) (total : ℤ) : Type 0 where
  pub join : List ℕ
  pub least : IsLeastOddJoin i join
  pub weighs : total ≡ weight (graph_of i) (map (λ c. c + 1) join)

-- the counts of an answer that is counts, and none elsewhere
abbrev pub counts_in : Option Answer → List ℕ
counts_in None = []
counts_in (Some (Counts counts)) = counts
counts_in (Some (Walk start edges)) = []
counts_in (Some Nothing) = []
