-- What `trial` answers to the instance that it makes.
use Rattle.std.specs.Prelude.{◌≡◌, ℕ, List}
use Rattle.graph_theory.specs.Limits.{IsWithinLimits}
use Rattle.mb_problem.specs.declared.kind.Kind.{Kind}
use Rattle.mb_problem.specs.Network.{Network}
use Rattle.mb_problem.specs.Size.{size_of}
use Rattle.doc_format.specs.declared.document.Document.{Document}
use Rattle.cert_check.specs.declared.rule.Verdict.TheVariants.{Accepted}
use Rattle.check_text.specs.declared.status.Status.{Status}
use Rattle.check_text.specs.declared.status.Status.TheVariants.{Done, TooLarge}
use Rattle.check_text.specs.declared.output.Output.{Output}
use Rattle.check_text.specs.Lines.{trial_text, too_large_line}
use Rattle.match_cli.specs.Solving.{Solves}

-- this is written of an instance within the limits: it is solved as `solve` does, and the document
-- is accepted
abbrev pub IsTried : Kind → Network → List ℕ → Type 0
IsTried kind i out = (d : Document) × Solves kind i d
    × (out ≡ trial_text (size_of kind i) d Accepted)

-- what is written of an instance of any size, and the status
abbrev pub TrialAnswer : Kind → Network → List ℕ → Status → Type 0
TrialAnswer kind i out Done = IsWithinLimits (size_of kind i) × IsTried kind i out
TrialAnswer kind i out TooLarge = ¬ IsWithinLimits (size_of kind i)
    × (out ≡ too_large_line (size_of kind i))
TrialAnswer kind i out status = ⊥

abbrev pub DecidesTrial : Kind → Network → Output → Type 0
DecidesTrial kind i a = TrialAnswer kind i a.text.items a.status
