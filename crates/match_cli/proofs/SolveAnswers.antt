-- From the answer of a part of `solve` to the answer of the whole.
use Rattle.certificates.proofs.Common.{◌≡◌, ℕ, List, Result, Ok, Err, inr, refl, sym, subst, IfOk, Kind, Network, Document, document_text, IsWithinLimits, size_of}
use Rattle.dimacs_read.specs.declared.rest.Rest.{Rest}
use Rattle.dimacs_read.specs.declared.rule.Rule.TheVariants.{UnknownLine}
use Rattle.dimacs_read.specs.Rest.{IsRest}
use Rattle.solve_answers.specs.declared.detail.Detail.{Detail}
use Rattle.solve_answers.specs.Details.{is_brief}
use Rattle.check_text.specs.declared.output.Output.{Output}
use Rattle.check_text.specs.declared.status.Status.{Status}
use Rattle.check_text.specs.declared.status.Status.TheVariants.{Done, Rejected, Usage, Malformed, TooLarge, TooLong, ReadFault, WriteFault, OutOfMemory}
use Rattle.match_cli.specs.Solving.{Solves, SizedAnswer, DecidesSized, FollowedAnswer, DecidesFollowed}
use Rattle.check_text.specs.Answers.{InputHolds}
use Rattle.match_cli.specs.Answers.{DecidesSolve}
use Rattle.check_text.proofs.Checks.{if_ok-map}
use Rattle.check_text.proofs.InputParts.{rest_empty, rest_some}

-- the answer that is the text of a document
pub sized_answers : (kind : Kind) (detail : Detail) (i : Network) (d : Document) {E : Type 0} (r : Result Output E) → IsWithinLimits (size_of kind i) → Solves kind i d →
    IfOk r (λ a. a.text.items ≡ document_text d (is_brief detail)) → IfOk r (λ a. a.status ≡ Done) → IfOk r (DecidesSized kind detail i)
sized_answers kind detail i d (Ok a) limits solves text status = subst (λ (s : Status). SizedAnswer kind detail i a.text.items s) (sym status) (limits, (d, solves, text))
sized_answers kind detail i d (Err e) limits solves text status = tt

decides_from : (kind : Kind) (detail : Detail) (bytes : List ℕ) (i : Network) (rest : Rest) (out : List ℕ) (status : Status) → InputHolds kind bytes i → IsRest bytes rest →
    FollowedAnswer kind detail i rest out status → DecidesSolve kind detail bytes out status
decides_from kind detail bytes i rest out Malformed h is a = (let found = rest_some bytes rest is a.0 in (UnknownLine, rest.line, inr ((i, h), refl, found), a.1))
decides_from kind detail bytes i rest out TooLarge h is a = (i, record { holds = h; alone = rest_empty bytes rest is a.0 }, a.1.0, a.1.1)
decides_from kind detail bytes i rest out Done h is a = (i, a.1.1.0, record { holds = h; alone = rest_empty bytes rest is a.0 }, a.1.0, a.1.1.1, a.1.1.2)
decides_from kind detail bytes i rest out Rejected h is a = absurd a.1.1
decides_from kind detail bytes i rest out Usage h is a = absurd a.1.1
decides_from kind detail bytes i rest out TooLong h is a = absurd a.1.1
decides_from kind detail bytes i rest out ReadFault h is a = absurd a.1.1
decides_from kind detail bytes i rest out WriteFault h is a = absurd a.1.1
decides_from kind detail bytes i rest out OutOfMemory h is a = absurd a.1.1

pub solve_answers : (kind : Kind) (detail : Detail) (bytes : List ℕ) (i : Network) (rest : Rest) {E : Type 0} (r : Result Output E) → InputHolds kind bytes i → IsRest bytes rest →
    IfOk r (DecidesFollowed kind detail i rest) → IfOk r (λ a. DecidesSolve kind detail bytes a.text.items a.status)
solve_answers kind detail bytes i rest r h is =
    if_ok-map (DecidesFollowed kind detail i rest) (λ a. DecidesSolve kind detail bytes a.text.items a.status) r (λ a p. decides_from kind detail bytes i rest a.text.items a.status h is p)
