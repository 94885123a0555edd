-- What the document of a perfect matching is made of.
use Rattle.std.specs.Prelude.{◌≡◌, ◌≤◌, pos, ◌*ℤ◌, ◌≤ℤ◌, length, All, Bool, true, false}
use Rattle.graph_theory.specs.Graph.{weight}
use Rattle.graph_theory.specs.Duals.{IsNumber}
use Rattle.mb_problem.specs.declared.kind.Kind.{Kind}
use Rattle.mb_problem.specs.declared.answer.Answer.{Answer}
use Rattle.mb_problem.specs.Network.{Network}
use Rattle.mb_problem.specs.Feasible.{IsFeasible, weight_of}
use Rattle.mb_problem.specs.Values.{value_for}
use Rattle.doc_format.specs.declared.document.Document.{Document}
use Rattle.doc_format.specs.declared.status.DocStatus.TheVariants.{Optimal}
use Rattle.doc_format.specs.Form.{AscendsBy}
use Rattle.doc_format.specs.Parts.{blank}
use Rattle.doc_format.specs.Reading.{body_of}
use Rattle.certificates.specs.Claims.{duals_of}
use Rattle.certificates.specs.Within.{IsCountWithin, IsDualWithin}
use Rattle.mwpm_engine.specs.Solutions.{Solution, matching_of}
use Rattle.document_lines.specs.Lines.{ListsAnswer, line_of}
use Rattle.document_lines.specs.Sets.{ListsSets}
use Rattle.solve_answers.specs.Chosen.{IsChosenAnswer}
use Rattle.solve_answers.specs.Stands.{HasFewSteps}

-- its value is at most the weight of the matching, doubled
abbrev pub PaysFor : Kind → Network → Solution → Answer → Type 0
PaysFor kind i s answer = value_for kind i (weight_of kind i answer)
    ≤ℤ (pos 2 *ℤ weight s.graph (matching_of s.graph s.mates))

-- an answer that pays for the matching, as a document lists and weighs it
pub record StatesAnswer (kind : Kind) (i : Network) (s : Solution) (d : Document) : Type 0 where
  pub status : d.status ≡ Optimal
  pub kind_is : d.kind ≡ kind
  pub answer : Answer
  pub feasible : IsFeasible kind i answer
  pub few_steps : HasFewSteps i answer
  pub chosen : IsChosenAnswer kind i answer
  pub lists : ListsAnswer answer d.counts
  pub walk : d.walk ≡ line_of answer
  pub pays : PaysFor kind i s answer
  pub weight : d.weight ≡ weight_of kind i answer
  pub number : IsNumber d.weight
  pub ascending : AscendsBy (λ x. x.edge) d.counts
  pub counts_within : All (IsCountWithin (length i.edges)) d.counts
  pub few_counts : length d.counts ≤ length i.edges

-- .. with the duals and sets of the solution, each set by the sets before it
pub record Presents (kind : Kind) (i : Network) (s : Solution) (d : Document) : Type 0 where
  pub states : StatesAnswer kind i s d
  pub duals : duals_of d ≡ s.duals
  pub duals_within : All (IsDualWithin s.graph.vertices) d.duals
  pub sets : ListsSets s.graph.vertices s.sets d.sets
  pub only : body_of d
      ≡ record blank { counts = d.counts; walk = d.walk; duals = d.duals; sets = d.sets }

-- .. or without them
pub record PresentsBriefly (kind : Kind) (i : Network) (s : Solution) (d : Document) : Type 0 where
  pub states : StatesAnswer kind i s d
  pub only : body_of d ≡ record blank { counts = d.counts; walk = d.walk }

-- in full, or in brief
abbrev pub PresentsFor : Bool → Kind → Network → Solution → Document → Type 0
PresentsFor false kind i s d = Presents kind i s d
PresentsFor true kind i s d = PresentsBriefly kind i s d
