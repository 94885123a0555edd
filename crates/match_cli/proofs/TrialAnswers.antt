-- From the answer to a made instance to the answer of `trial`.
use Rattle.certificates.proofs.Common.{◌≡◌, ℕ, Result, Ok, Err, refl, ap, sym, subst, ◌∙◌, IfOk, Size, IsWithinLimits, Kind, Network, size_of, Document}
use Rattle.cert_check.specs.declared.rule.Verdict.{Verdict}
use Rattle.cert_check.specs.declared.rule.Verdict.TheVariants.{Accepted}
use Rattle.check_text.specs.declared.output.Output.{Output}
use Rattle.check_text.specs.declared.status.Status.{Status}
use Rattle.check_text.specs.declared.status.Status.TheVariants.{Done}
use Rattle.check_text.specs.Codes.{status_of}
use Rattle.check_text.specs.Lines.{trial_text}
use Rattle.match_cli.specs.Solving.{Solves}
use Rattle.match_cli.specs.Trying.{IsTried, TrialAnswer, DecidesTrial}

same_text : (size : Size) (d : Document) (v : Verdict) (n m : ℕ) → n ≡ size.vertices → m ≡ size.edges → v ≡ Accepted →
    trial_text (record { vertices = n; edges = m }) d v ≡ trial_text size d Accepted
same_text size d v n m vertices edges accepted = rw (vertices, edges, accepted) refl

pub solved_is_tried : (kind : Kind) (i : Network) (d : Document) (v : Verdict) (n m : ℕ) {E : Type 0} (r : Result Output E) → Solves kind i d → v ≡ Accepted →
    n ≡ (size_of kind i).vertices → m ≡ (size_of kind i).edges → IfOk r (λ a. a.text.items ≡ trial_text (record { vertices = n; edges = m }) d v) → IfOk r (λ a. IsTried kind i a.text.items)
solved_is_tried kind i d v n m (Ok a) solves accepted vertices edges text = (d, solves, text ∙ same_text (size_of kind i) d v n m vertices edges accepted)
solved_is_tried kind i d v n m (Err e) solves accepted vertices edges text = tt

pub accepted_is_done : (v : Verdict) {E : Type 0} (r : Result Output E) → v ≡ Accepted → IfOk r (λ a. a.status ≡ status_of v) → IfOk r (λ a. a.status ≡ Done)
accepted_is_done v (Ok a) accepted status = status ∙ ap status_of accepted
accepted_is_done v (Err e) accepted status = tt

pub tried_answers : (kind : Kind) (i : Network) {E : Type 0} (r : Result Output E) → IsWithinLimits (size_of kind i) → IfOk r (λ a. IsTried kind i a.text.items) →
    IfOk r (λ a. a.status ≡ Done) → IfOk r (DecidesTrial kind i)
tried_answers kind i (Ok a) fits tried done = subst (λ (s : Status). TrialAnswer kind i a.text.items s) (sym done) (fits, tried)
tried_answers kind i (Err e) fits tried done = tt
