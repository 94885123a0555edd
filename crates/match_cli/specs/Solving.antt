-- What the parts of `solve` answer, each for what stands before it.
use Rattle.std.specs.Prelude.{◌≡◌, ◌≢◌, ℕ, ◌≤◌, List, [], length, false}
use Rattle.graph_theory.specs.Limits.{IsWithinLimits}
use Rattle.mb_problem.specs.declared.kind.Kind.{Kind}
use Rattle.mb_problem.specs.Network.{Network, IsNetwork}
use Rattle.mb_problem.specs.Size.{size_of}
use Rattle.dimacs_read.specs.declared.rest.Rest.{Rest}
use Rattle.dimacs_read.specs.declared.rule.Rule.TheVariants.{UnknownLine}
use Rattle.doc_format.specs.declared.document.Document.{Document}
use Rattle.doc_format.specs.Spelling.{document_text}
use Rattle.certificates.specs.Proved.{IsProved, StatesTruth}
use Rattle.solve_answers.specs.Chosen.{IsChosen}
use Rattle.solve_answers.specs.declared.detail.Detail.{Detail}
use Rattle.solve_answers.specs.Details.{is_brief}
use Rattle.solve_answers.specs.Settled.{byte_limit_of}
use Rattle.solve_answers.specs.Solved.{HasTrueStatus}
use Rattle.check_text.specs.declared.status.Status.{Status}
use Rattle.check_text.specs.declared.status.Status.TheVariants.{Done, Malformed, TooLarge}
use Rattle.check_text.specs.declared.output.Output.{Output}
use Rattle.check_text.specs.Lines.{malformed_line, too_large_line}

-- ---- an instance within the limits

-- the document proves what it states of the instance: that an answer is best, exactly if one is
-- feasible, that there is none, or, for a path, that some circuit weighs less than 0; what is a
-- choice is chosen as `solve` says
pub record Solves (kind : Kind) (i : Network) (d : Document) : Type 0 where
  pub network : IsNetwork i
  pub proved : IsProved kind i d
  pub truth : StatesTruth kind i d
  pub exact : HasTrueStatus kind i d.status
  pub chosen : IsChosen kind i d
  pub size_limit : length (document_text d false) ≤ byte_limit_of kind

abbrev pub SolvedAnswer : Kind → Detail → Network → List ℕ → Status → Type 0
SolvedAnswer kind detail i out Done = (d : Document) × Solves kind i d
    × (out ≡ document_text d (is_brief detail))
SolvedAnswer kind detail i out status = ⊥

-- ---- an instance of any size

abbrev pub SizedAnswer : Kind → Detail → Network → List ℕ → Status → Type 0
SizedAnswer kind detail i out TooLarge = ¬ IsWithinLimits (size_of kind i)
    × (out ≡ too_large_line (size_of kind i))
SizedAnswer kind detail i out status = IsWithinLimits (size_of kind i)
    × SolvedAnswer kind detail i out status

abbrev pub DecidesSized : Kind → Detail → Network → Output → Type 0
DecidesSized kind detail i a = SizedAnswer kind detail i a.text.items a.status

-- ---- an instance and what follows it: nothing should

abbrev pub FollowedAnswer : Kind → Detail → Network → Rest → List ℕ → Status → Type 0
FollowedAnswer kind detail i rest out Malformed = (rest.bytes ≢ [])
    × (out ≡ malformed_line UnknownLine rest.line)
FollowedAnswer kind detail i rest out status = (rest.bytes ≡ [])
    × SizedAnswer kind detail i out status

abbrev pub DecidesFollowed : Kind → Detail → Network → Rest → Output → Type 0
DecidesFollowed kind detail i rest a = FollowedAnswer kind detail i rest a.text.items a.status
