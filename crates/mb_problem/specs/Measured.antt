-- Answers that can be measured: each count and each step of a walk belongs to an edge.
use Rattle.std.specs.Prelude.{◌≡◌, length, All}
use Rattle.graph_theory.specs.Graph.{IsEdgeNumber}
use Rattle.mb_problem.specs.declared.answer.Answer.{Answer}
use Rattle.mb_problem.specs.declared.answer.Answer.TheVariants.{Counts, Walk, Nothing}
use Rattle.mb_problem.specs.Network.{Network, graph_of}

-- one count for each edge, or a walk of numbers of edges
abbrev pub HasPlaces : Network → Answer → Type 0
HasPlaces i (Counts counts) = length counts ≡ length i.edges
HasPlaces i (Walk start edges) = All (IsEdgeNumber (graph_of i)) edges
HasPlaces i Nothing = Unit {0}
