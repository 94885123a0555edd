-- What an accepted document proves, and what it says of the instance, by the problem alone.
use Rattle.std.specs.Prelude.{◌≡◌, ⊤, None, MatchOption}
use Rattle.graph_theory.specs.Duals.{AreDuals}
use Rattle.graph_theory.specs.Walk.{IsConservative}
use Rattle.mb_problem.specs.declared.kind.Kind.{Kind}
use Rattle.mb_problem.specs.declared.answer.Answer.{Answer}
use Rattle.mb_problem.specs.declared.kind.BestProof.{BestProof}
use Rattle.mb_problem.specs.declared.kind.BestProof.TheVariants.{Duals, LighterBarrier, OuterPaths}
use Rattle.mb_problem.specs.Kinds.{proof_of}
use Rattle.mb_problem.specs.Network.{Network, graph_of}
use Rattle.mb_problem.specs.Feasible.{IsFeasible, IsBest, weight_of}
use Rattle.mb_problem.specs.Missed.{AreMissed, BorderMissed}
use Rattle.gadget_base.specs.Certified.{gadget_graph}
use Rattle.doc_format.specs.declared.document.Document.{Document}
use Rattle.doc_format.specs.declared.status.DocStatus.{DocStatus}
use Rattle.doc_format.specs.declared.status.DocStatus.TheVariants.{Optimal, Infeasible}
use Rattle.doc_format.specs.declared.status.DocStatus.TheVariants.{NonConservative}
use Rattle.certificates.specs.Claims.{answer_of, duals_of, numbers}
use Rattle.certificates.specs.Ranges.{first_out_of_range}
use Rattle.certificates.specs.Certificates.{HasFeasibleAnswer, HasStatedWeight, HaveForm, listed}
use Rattle.certificates.specs.Certificates.{HasValue, HasLighterBarrier, HasWantedBarrier}
use Rattle.certificates.specs.Certificates.{HasWantedPart, HasNegativeCircuit}
use Rattle.certificates.specs.Certificates.{HavePathForm, HasAllPaths, HasDecomposition}

-- feasible duals, on sets with form, of the value that the stated weight asks for
pub record ProvesByDuals (kind : Kind) (i : Network) (d : Document) : Type 0 where
  pub forms : HaveForm d
  pub duals : AreDuals (gadget_graph kind i) (duals_of d) (listed kind i d)
  pub value : HasValue kind i d

-- even paths of the members of the d line, whose border leaves as many odd components as it has to
pub record ProvesByPaths (kind : Kind) (i : Network) (d : Document) : Type 0 where
  pub paths : HavePathForm i d
  pub all : HasAllPaths d
  pub decomposed : HasDecomposition kind i d

-- such duals; or a barrier of the graph of all lighter edges; or such paths
abbrev pub ProvesBest : BestProof → Kind → Network → Document → Type 0
ProvesBest (Duals value) kind i d = ProvesByDuals kind i d
ProvesBest LighterBarrier kind i d = HasLighterBarrier kind i d
ProvesBest OuterPaths kind i d = ProvesByPaths kind i d

-- a feasible answer of the stated weight, and what proves it best
pub record ProvesOptimal (kind : Kind) (i : Network) (d : Document) : Type 0 where
  pub feasible : HasFeasibleAnswer kind i d
  pub weighs : HasStatedWeight kind i d
  pub best : ProvesBest (proof_of kind) kind i d

abbrev pub ProvesByStatus : DocStatus → Kind → Network → Document → Type 0
ProvesByStatus Optimal kind i d = ProvesOptimal kind i d
ProvesByStatus Infeasible kind i d = HasWantedBarrier kind i d × HasWantedPart kind i d
ProvesByStatus NonConservative kind i d = HasNegativeCircuit i d

-- the document is of this kind, its numbers are in range, and it proves what it states
pub record IsProved (kind : Kind) (i : Network) (d : Document) : Type 0 where
  pub same_kind : d.kind ≡ kind
  pub in_range : first_out_of_range kind i d ≡ None
  pub proves : ProvesByStatus d.status kind i d

-- the sets beside a best answer are those that are asked for: the d line has the vertices that some
-- greatest matching misses, and the u line their neighbours outside
abbrev pub StatesSetsBy : BestProof → Network → Document → Type 0
StatesSetsBy (Duals value) i d = ⊤
StatesSetsBy LighterBarrier i d = ⊤
StatesSetsBy OuterPaths i d =
    MatchOption d.outer ⊥ (λ line. AreMissed i (numbers line.members))
    × MatchOption d.barrier ⊥ (λ u. BorderMissed i (numbers u.members))

abbrev pub StatesSets : Kind → Network → Document → Type 0
StatesSets kind i d = StatesSetsBy (proof_of kind) i d

-- the answer is best and weighs what is stated, beside the sets that are asked for; or no answer is
-- feasible; or some circuit weighs less than 0
abbrev pub StatesTruthBy : DocStatus → Kind → Network → Document → Type 0
StatesTruthBy Optimal kind i d = IsBest kind i (answer_of kind i d)
    × (weight_of kind i (answer_of kind i d) ≡ d.weight) × StatesSets kind i d
StatesTruthBy Infeasible kind i d = (answer : Answer) → IsFeasible kind i answer → ⊥
StatesTruthBy NonConservative kind i d = IsConservative (graph_of i) → ⊥

-- what the document states is true of the instance
abbrev pub StatesTruth : Kind → Network → Document → Type 0
StatesTruth kind i d = StatesTruthBy d.status kind i d
