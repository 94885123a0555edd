-- The certificate graph of a kind, and what its perfect matchings say of the instance.
use Rattle.std.specs.Prelude.{◌≡◌, ℕ, ◌≤◌, pos, ◌*ℤ◌, ◌≤ℤ◌, ⊤, List, All, count_by}
use Rattle.graph_theory.specs.Graph.{Multigraph, weight, IsPerfect, IsEdgeNumber, edge_of, touches}
use Rattle.mb_problem.specs.declared.kind.Kind.{Kind}
use Rattle.mb_problem.specs.declared.kind.BestProof.{BestProof}
use Rattle.mb_problem.specs.declared.kind.BestProof.TheVariants.{Duals, LighterBarrier}
use Rattle.mb_problem.specs.declared.kind.BestProof.TheVariants.{OuterPaths}
use Rattle.mb_problem.specs.declared.answer.Answer.{Answer}
use Rattle.mb_problem.specs.declared.gadget.GadgetForm.{GadgetForm}
use Rattle.mb_problem.specs.Network.{Network}
use Rattle.mb_problem.specs.Kinds.{gadget_of, proof_of}
use Rattle.mb_problem.specs.Feasible.{IsFeasible, weight_of}
use Rattle.mb_problem.specs.Ready.{HasNeededWeights}
use Rattle.mb_problem.specs.Values.{value_for}
use Rattle.gadget_base.specs.Gadgets.{graph_by}

abbrev pub gadget_graph : Kind → Network → Multigraph
gadget_graph kind i = graph_by (gadget_of kind) i

-- a perfect matching of the kind's graph whose weight, doubled, is at most the value for this
-- answer
pub record IsReached (kind : Kind) (i : Network) (answer : Answer) : Type 0 where
  pub counts : List ℕ
  pub perfect : IsPerfect (gadget_graph kind i) counts
  pub weighs : (pos 2 *ℤ weight (gadget_graph kind i) counts) ≤ℤ value_for kind i
      (weight_of kind i answer)

-- the graph has a perfect matching
abbrev pub IsMatchable : Multigraph → Type 0
IsMatchable g = (counts : List ℕ) × IsPerfect g counts

-- such a perfect matching where duals prove an answer best, and any where a barrier does; if paths
-- do, answers needn't be perfect matchings
abbrev pub IsReachedBy : BestProof → Kind → Network → Answer → Type 0
IsReachedBy (Duals value) kind i answer = IsReached kind i answer
IsReachedBy LighterBarrier kind i answer = IsMatchable (gadget_graph kind i)
IsReachedBy OuterPaths kind i answer = ⊤

-- each feasible answer has its perfect matching
abbrev pub ReachesAll : Kind → Network → Type 0
ReachesAll kind i = (answer : Answer) → IsFeasible kind i answer
    → IsReachedBy (proof_of kind) kind i answer

-- the same of each kind whose graph is built so, if the weights are those that the kind needs
abbrev pub ReachesAllBy : GadgetForm → Network → Type 0
ReachesAllBy gadget i = (kind : Kind) → gadget_of kind ≡ gadget → HasNeededWeights kind i
    → ReachesAll kind i

-- a perfect matching (chapter 24) as a list of numbers of edges: each vertex is an end of exactly
-- one of them
pub record IsPerfectList (g : Multigraph) (edges : List ℕ) : Type 0 where
  pub numbers : All (IsEdgeNumber g) edges
  pub one_each : (v : ℕ) → 1 ≤ v → v ≤ g.vertices → count_by (λ e. touches (edge_of g e) v) edges
      ≡ 1
