-- What `check` answers to the bytes of an instance and a document: what is written, and the status.
use Rattle.std.specs.Prelude.{◌≡◌, ℕ, ◌+◌, List, length, codes}
use Rattle.mb_base.specs.Rows.{Row, rows}
use Rattle.graph_theory.specs.Limits.{IsWithinLimits}
use Rattle.mb_problem.specs.declared.kind.Kind.{Kind}
use Rattle.mb_problem.specs.Network.{Network}
use Rattle.mb_problem.specs.Size.{size_of}
use Rattle.dimacs_read.specs.declared.rule.Rule.{Rule}
use Rattle.dimacs_read.specs.Rows.{instance_rows}
use Rattle.dimacs_read.specs.Format.{IsFirstFault, HoldsInstance}
use Rattle.dimacs_read.specs.Rest.{after_lines}
use Rattle.doc_format.specs.declared.document.Document.{Document}
use Rattle.doc_format.specs.Reading.{HoldsDocument}
use Rattle.cert_check.specs.declared.rule.DocRule.{DocRule}
use Rattle.cert_check.specs.declared.rule.Verdict.TheVariants as verdict
use Rattle.cert_check.specs.Verdicts.{IsVerdict}
use Rattle.certificates.specs.Proved.{StatesTruth}
use Rattle.check_text.specs.declared.status.Status.{Status}
use Rattle.check_text.specs.declared.status.Status.TheVariants.{Done, Rejected, Malformed}
use Rattle.check_text.specs.declared.status.Status.TheVariants.{TooLarge}
use Rattle.check_text.specs.Lines.{malformed_line, rejected_line, too_large_line}
use Rattle.check_text.specs.Checking.{RefusesFirst}

-- ---- the two parts of an input

-- the lines of the instance: those before the first that begins with the field s
abbrev pub instance_part : List ℕ → List Row
instance_part bytes = instance_rows (rows bytes)

-- the bytes after the instance, which hold the document
abbrev pub document_part : List ℕ → List ℕ
document_part bytes = after_lines (length (instance_part bytes)) bytes

-- the number of the document's first line
abbrev pub document_line : List ℕ → ℕ
document_line bytes = length (instance_part bytes) + 1

abbrev pub InputHolds : Kind → List ℕ → Network → Type 0
InputHolds kind bytes i = HoldsInstance kind (instance_part bytes) i

abbrev pub InputStates : List ℕ → Document → Type 0
InputStates bytes d = HoldsDocument (document_line bytes) (rows (document_part bytes)) d

-- ---- check

-- The first rule that what follows the instance breaks, and its line: it isn't a document, or a
-- rule of the verdict.
abbrev pub BreaksFirst : Kind → List ℕ → Network → DocRule → ℕ → Type 0
BreaksFirst kind bytes i rule line = RefusesFirst kind i (document_line bytes)
    (rows (document_part bytes)) rule line

-- the input holds this instance and states this document, which is accepted and true of the
-- instance
pub record Accepts (kind : Kind) (bytes : List ℕ) (i : Network) (d : Document) : Type 0 where
  pub holds : InputHolds kind bytes i
  pub fits : IsWithinLimits (size_of kind i)
  pub states : InputStates bytes d
  pub accepted : IsVerdict kind i d verdict.Accepted
  pub truth : StatesTruth kind i d

-- what `check` writes, and its status, for input within its limit of bytes
abbrev pub Decides : Kind → List ℕ → List ℕ → Status → Type 0
Decides kind bytes out Malformed = (rule : Rule) × (line : ℕ)
    × IsFirstFault kind (instance_part bytes) rule line × (out ≡ malformed_line rule line)
Decides kind bytes out TooLarge = (i : Network) × InputHolds kind bytes i
    × ¬ IsWithinLimits (size_of kind i) × (out ≡ too_large_line (size_of kind i))
Decides kind bytes out Rejected =
    (i : Network) × InputHolds kind bytes i × IsWithinLimits (size_of kind i) × (rule : DocRule)
    × (line : ℕ) × BreaksFirst kind bytes i rule line × (out ≡ rejected_line rule line)
Decides kind bytes out Done = (i : Network) × (d : Document) × Accepts kind bytes i d
    × (out ≡ codes "s ACCEPTED\n")
Decides kind bytes out _ = ⊥
