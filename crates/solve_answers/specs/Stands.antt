-- What answer a perfect matching of a kind's graph stands for.
use Rattle.std.specs.Prelude.{ℕ, ◌*◌, ◌≤◌, pos, ◌*ℤ◌, ◌≤ℤ◌, List, length, ⊤}
use Rattle.graph_theory.specs.Walk.{walk_weight}
use Rattle.mb_problem.specs.declared.kind.Kind.{Kind}
use Rattle.mb_problem.specs.declared.answer.Answer.{Answer}
use Rattle.mb_problem.specs.declared.answer.Answer.TheVariants.{Counts, Walk, Nothing}
use Rattle.mb_problem.specs.Network.{Network}
use Rattle.mb_problem.specs.Feasible.{IsFeasible, weight_of}
use Rattle.mb_problem.specs.Values.{value_for}
use Rattle.gadget_base.specs.Certified.{gadget_graph}
use Rattle.solve_answers.specs.Chosen.{IsChosenAnswer}

-- no more steps than twice the edges
abbrev pub HasFewSteps : Network → Answer → Type 0
HasFewSteps i (Counts counts) = ⊤
HasFewSteps i (Walk start edges) = length edges ≤ 2 * length i.edges
HasFewSteps i Nothing = ⊤

-- the value of an answer is at most the weight of these edges of the kind's graph, doubled
abbrev pub PaysAll : Kind → Network → List ℕ → Answer → Type 0
PaysAll kind i edges answer = value_for kind i (weight_of kind i answer)
    ≤ℤ (pos 2 *ℤ walk_weight (gadget_graph kind i) edges)

-- the answer that these edges of the kind's graph stand for
pub record IsAnswerTo (kind : Kind) (i : Network) (edges : List ℕ) (answer : Answer) : Type 0 where
  pub feasible : IsFeasible kind i answer
  pub few_steps : HasFewSteps i answer
  pub chosen : IsChosenAnswer kind i answer
  pub pays : PaysAll kind i edges answer
