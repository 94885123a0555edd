-- What the parts of `check` answer, each for what stands before it.
use Rattle.std.specs.Prelude.{◌≡◌, ℕ, ◌+◌, ◌⊎◌, List, codes}
use Rattle.mb_base.specs.Rows.{Row, rows}
use Rattle.graph_theory.specs.Limits.{IsWithinLimits}
use Rattle.mb_problem.specs.declared.kind.Kind.{Kind}
use Rattle.mb_problem.specs.Network.{Network}
use Rattle.mb_problem.specs.Size.{size_of}
use Rattle.doc_format.specs.declared.document.Document.{Document}
use Rattle.doc_format.specs.Reading.{IsFirstRefused, HoldsDocument}
use Rattle.cert_check.specs.declared.rule.DocRule.{DocRule}
use Rattle.cert_check.specs.declared.rule.DocRule.TheVariants.{DocForm}
use Rattle.cert_check.specs.declared.rule.Verdict.TheVariants as verdict
use Rattle.cert_check.specs.Verdicts.{IsVerdict}
use Rattle.certificates.specs.Proved.{StatesTruth}
use Rattle.check_text.specs.declared.status.Status.{Status}
use Rattle.check_text.specs.declared.status.Status.TheVariants.{Done, Rejected, TooLarge}
use Rattle.check_text.specs.declared.output.Output.{Output}
use Rattle.check_text.specs.Lines.{rejected_line, too_large_line}

-- ---- a document of an instance: accepted and true, or refused by its first rule

abbrev pub DocumentAnswer : Kind → Network → Document → List ℕ → Status → Type 0
DocumentAnswer kind i d out Done = IsVerdict kind i d verdict.Accepted × StatesTruth kind i d
    × (out ≡ codes "s ACCEPTED\n")
DocumentAnswer kind i d out Rejected = (rule : DocRule) × (line : ℕ)
    × IsVerdict kind i d (verdict.Rejected rule line) × (out ≡ rejected_line rule line)
DocumentAnswer kind i d out status = ⊥

abbrev pub DecidesDocument : Kind → Network → Document → Output → Type 0
DecidesDocument kind i d a = DocumentAnswer kind i d a.text.items a.status

-- ---- what follows an instance, from line n on

abbrev pub RefusesFirst : Kind → Network → ℕ → List Row → DocRule → ℕ → Type 0
RefusesFirst kind i n rs rule line =
    ((rule ≡ DocForm) × ((k : ℕ) × (line ≡ n + k) × IsFirstRefused n rs k))
    ⊎ ((d : Document) × HoldsDocument n rs d × IsVerdict kind i d (verdict.Rejected rule line))

abbrev pub RestAnswer : Kind → Network → ℕ → List ℕ → List ℕ → Status → Type 0
RestAnswer kind i n bytes out Done = (d : Document) × HoldsDocument n (rows bytes) d
    × IsVerdict kind i d verdict.Accepted × StatesTruth kind i d × (out ≡ codes "s ACCEPTED\n")
RestAnswer kind i n bytes out Rejected = (rule : DocRule) × (line : ℕ)
    × RefusesFirst kind i n (rows bytes) rule line × (out ≡ rejected_line rule line)
RestAnswer kind i n bytes out status = ⊥

abbrev pub DecidesRest : Kind → Network → ℕ → List ℕ → Output → Type 0
DecidesRest kind i n bytes a = RestAnswer kind i n bytes a.text.items a.status

-- ---- an instance and what follows it: the certificate graph is within the limits, or the size is
-- refused

abbrev pub InstanceAnswer : Kind → Network → ℕ → List ℕ → List ℕ → Status → Type 0
InstanceAnswer kind i n bytes out TooLarge = ¬ IsWithinLimits (size_of kind i)
    × (out ≡ too_large_line (size_of kind i))
InstanceAnswer kind i n bytes out status = IsWithinLimits (size_of kind i)
    × RestAnswer kind i n bytes out status

abbrev pub DecidesInstance : Kind → Network → ℕ → List ℕ → Output → Type 0
DecidesInstance kind i n bytes a = InstanceAnswer kind i n bytes a.text.items a.status
