-- The value that duals have beside a best answer: twice the weight of the perfect matching that
-- stands for it.
use Rattle.std.specs.Prelude.{ℤ, pos, neg_ℤ, ◌*ℤ◌, ◌-ℤ◌, length, replicate}
use Rattle.graph_theory.specs.Graph.{weight}
use Rattle.mb_problem.specs.declared.kind.Kind.{Kind}
use Rattle.mb_problem.specs.declared.kind.DualValue.{DualValue}
use Rattle.mb_problem.specs.declared.kind.DualValue.TheVariants.{Twice, Opposite, BesideAll}
use Rattle.mb_problem.specs.declared.kind.DualValue.TheVariants.{FourTimes}
use Rattle.mb_problem.specs.declared.kind.BestProof.{BestProof}
use Rattle.mb_problem.specs.declared.kind.BestProof.TheVariants.{Duals, LighterBarrier, OuterPaths}
use Rattle.mb_problem.specs.Network.{Network, graph_of}
use Rattle.mb_problem.specs.Kinds.{proof_of}

-- the weights of all edges, added up
abbrev pub total_weight : Network → ℤ
total_weight i = weight (graph_of i) (replicate (length i.edges) 1)

-- Weights are turned round where an answer of greatest weight stands twice in a doubled graph. A
-- tour uses each edge once beside those of the join at the vertices of odd degree. Between bounds
-- an answer stands twice.
abbrev pub value_by : DualValue → Network → ℤ → ℤ
value_by Twice i w = pos 2 *ℤ w
value_by Opposite i w = neg_ℤ (pos 4 *ℤ w)
value_by BesideAll i w = pos 2 *ℤ (w -ℤ total_weight i)
value_by FourTimes i w = pos 4 *ℤ w

-- the same by what proves an answer best; if no duals do, there is no such value
abbrev pub value_beside : BestProof → Network → ℤ → ℤ
value_beside (Duals value) i w = value_by value i w
value_beside LighterBarrier i w = pos 2 *ℤ w
value_beside OuterPaths i w = neg_ℤ w

-- the value that duals have beside a best answer of weight w
abbrev pub value_for : Kind → Network → ℤ → ℤ
value_for kind i w = value_beside (proof_of kind) i w
