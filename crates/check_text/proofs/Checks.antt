-- From the answer of a part of `check` to the answer of the whole.
use Rattle.certificates.proofs.Common.{◌≡◌, ℕ, ◌+◌, List, Result, Ok, Err, inl, inr, sym, subst, refl, IfOk, rows, Kind, Network, Document, HoldsDocument, IsFirstRefused}
use Rattle.certificates.proofs.Common.{StatesTruth}
use Rattle.dimacs_read.specs.declared.rest.Rest.{Rest}
use Rattle.dimacs_read.specs.Rest.{IsRest}
use Rattle.cert_check.specs.declared.rule.DocRule.TheVariants.{DocForm}
use Rattle.cert_check.specs.declared.rule.Verdict.{Verdict}
use Rattle.cert_check.specs.Verdicts.{IsVerdict}
use Rattle.check_text.specs.Lines.{rejected_line, verdict_line}
use Rattle.check_text.specs.Codes.{status_of}
use Rattle.check_text.specs.declared.status.Status.{Status}
use Rattle.check_text.specs.declared.status.Status.TheVariants.{Done, Rejected, Usage, Malformed, TooLarge, TooLong, ReadFault, WriteFault, OutOfMemory}
use Rattle.check_text.specs.declared.output.Output.{Output}
use Rattle.check_text.specs.Checking.{DocumentAnswer, DecidesDocument, RestAnswer, DecidesRest, InstanceAnswer, DecidesInstance}
use Rattle.check_text.specs.Answers.{InputHolds, Decides, document_part, document_line}
use Rattle.cert_check.specs.declared.rule.Verdict.TheVariants as verdict

document_of_verdict : (kind : Kind) (i : Network) (d : Document) (v : Verdict) → IsVerdict kind i d v → (v ≡ verdict.Accepted → StatesTruth kind i d) →
    DocumentAnswer kind i d (verdict_line v) (status_of v)
document_of_verdict kind i d verdict.Accepted is sound = (is, sound refl, refl)
document_of_verdict kind i d (verdict.Rejected rule line) is sound = (rule, line, is, refl)

rest_of_document : (kind : Kind) (i : Network) (n : ℕ) (bytes : List ℕ) (d : Document) (out : List ℕ) (status : Status) → HoldsDocument n (rows bytes) d →
    DocumentAnswer kind i d out status → RestAnswer kind i n bytes out status
rest_of_document kind i n bytes d out Done h a = (d, h, a.0, a.1, a.2)
rest_of_document kind i n bytes d out Rejected h a = (a.0, a.1, inr (d, h, a.2), a.3)
rest_of_document kind i n bytes d out Usage h a = absurd a
rest_of_document kind i n bytes d out Malformed h a = absurd a
rest_of_document kind i n bytes d out TooLarge h a = absurd a
rest_of_document kind i n bytes d out TooLong h a = absurd a
rest_of_document kind i n bytes d out ReadFault h a = absurd a
rest_of_document kind i n bytes d out WriteFault h a = absurd a
rest_of_document kind i n bytes d out OutOfMemory h a = absurd a

decides_from : (kind : Kind) (bytes : List ℕ) (i : Network) (out : List ℕ) (status : Status) → InputHolds kind bytes i →
    InstanceAnswer kind i (document_line bytes) (document_part bytes) out status → Decides kind bytes out status
decides_from kind bytes i out Done h a = (i, a.1.0, record { holds = h; fits = a.0; states = a.1.1; accepted = a.1.2; truth = a.1.3 }, a.1.4)
decides_from kind bytes i out Rejected h a = (i, h, a.0, a.1.0, a.1.1, a.1.2, a.1.3)
decides_from kind bytes i out Usage h a = absurd a.1
decides_from kind bytes i out Malformed h a = absurd a.1
decides_from kind bytes i out TooLarge h a = (i, h, a.0, a.1)
decides_from kind bytes i out TooLong h a = absurd a.1
decides_from kind bytes i out ReadFault h a = absurd a.1
decides_from kind bytes i out WriteFault h a = absurd a.1
decides_from kind bytes i out OutOfMemory h a = absurd a.1

pub if_ok-map : {A E : Type 0} (P Q : A → Type 0) (r : Result A E) → ((a : A) → P a → Q a) → IfOk r P → IfOk r Q
if_ok-map P Q (Ok a) f h = f a h
if_ok-map P Q (Err e) f h = tt

pub document_answers : (kind : Kind) (i : Network) (d : Document) (v : Verdict) {E : Type 0} (r : Result Output E) → IsVerdict kind i d v → (v ≡ verdict.Accepted → StatesTruth kind i d) →
    IfOk r (λ a. a.text.items ≡ verdict_line v) → IfOk r (λ a. a.status ≡ status_of v) → IfOk r (DecidesDocument kind i d)
document_answers kind i d v (Ok a) is sound text status =
    subst (λ (out : List ℕ). DocumentAnswer kind i d out a.status) (sym text)
    (subst (λ (s : Status). DocumentAnswer kind i d (verdict_line v) s) (sym status) (document_of_verdict kind i d v is sound))
document_answers kind i d v (Err e) is sound text status = tt

pub rest_answers : (kind : Kind) (i : Network) (n : ℕ) (bytes : List ℕ) (d : Document) {E : Type 0} (r : Result Output E) → HoldsDocument n (rows bytes) d →
    IfOk r (DecidesDocument kind i d) → IfOk r (DecidesRest kind i n bytes)
rest_answers kind i n bytes d r h = if_ok-map (DecidesDocument kind i d) (DecidesRest kind i n bytes) r (λ a. rest_of_document kind i n bytes d a.text.items a.status h)

pub check_answers : (kind : Kind) (bytes : List ℕ) (i : Network) (rest : Rest) {E : Type 0} (r : Result Output E) → InputHolds kind bytes i → IsRest bytes rest →
    IfOk r (DecidesInstance kind i rest.line rest.bytes) → IfOk r (λ a. Decides kind bytes a.text.items a.status)
check_answers kind bytes i rest r h is =
    if_ok-map (DecidesInstance kind i rest.line rest.bytes) (λ a. Decides kind bytes a.text.items a.status) r
    (λ a p. decides_from kind bytes i a.text.items a.status h
    (subst (λ (n : ℕ). InstanceAnswer kind i n (document_part bytes) a.text.items a.status) is.line_is
    (subst (λ (b : List ℕ). InstanceAnswer kind i rest.line b a.text.items a.status) is.bytes_are p)))

pub form_answers : (kind : Kind) (i : Network) (n k line : ℕ) (bytes : List ℕ) {E : Type 0} (r : Result Output E) → line ≡ n + k → IsFirstRefused n (rows bytes) k →
    IfOk r (λ a. a.text.items ≡ rejected_line DocForm line) → IfOk r (λ a. a.status ≡ Rejected) → IfOk r (DecidesRest kind i n bytes)
form_answers kind i n k line bytes (Ok a) e refused text status =
    subst (λ (s : Status). RestAnswer kind i n bytes a.text.items s) (sym status) (DocForm, line, inl (refl, (k, e, refused)), text)
form_answers kind i n k line bytes (Err x) e refused text status = tt
