-- What judging an answer in numbers answers.
use Rattle.std.specs.Prelude.{◌≡◌, ◌⊎◌, ℕ, ℤ, pos, List, [], ◌∷◌, Option, None, Some, Result}
use Rattle.std.specs.Prelude.{Ok, Err}
use Rattle.graph_theory.specs.Limits.{Size}
use Rattle.mb_problem.specs.declared.kind.Kind.{Kind}
use Rattle.mb_problem.specs.Kinds.{form_of}
use Rattle.doc_format.specs.declared.document.Document.{Document}
use Rattle.certificates.specs.Proved.{IsProved, StatesTruth}
use Rattle.solve_answers.specs.declared.detail.Detail.TheVariants.{Full}
use Rattle.cert_check.specs.declared.rule.DocRule.{DocRule}
use Rattle.cert_check.specs.declared.rule.DocRule.TheVariants.{DocForm}
use Rattle.cert_check.specs.declared.rule.Verdict.TheVariants.{Rejected}
use Rattle.cert_check.specs.Verdicts.{IsVerdict}
use Rattle.array_call.specs.declared.error.ArrayError.{ArrayError}
use Rattle.array_call.specs.declared.error.ArrayError.TheVariants.{Malformed, TooLarge, OutOfMemory}
use Rattle.array_call.specs.declared.rule.ArrayFault.{ArrayFault}
use Rattle.array_call.specs.declared.calling.ArrayStatus.{ArrayStatus}
use Rattle.array_call.specs.declared.calling.ArrayStatus.TheVariants as status
use Rattle.array_call.specs.Arrays.{Arrays, edge_count, network_of}
use Rattle.array_call.specs.Faults.{array_fault}
use Rattle.array_call.specs.Rules.{number_of_document_rule}
use Rattle.array_call.specs.Layout.{numbers_for}
use Rattle.array_call.specs.Answers.{IsAnswerable, IsTooLarge, fault_numbers, size_numbers}

-- the numbers are those of the document, in full
abbrev pub IsOfNumbers : Kind → Arrays → List ℤ → Document → Type 0
IsOfNumbers kind a numbers d = numbers ≡ numbers_for Full (form_of kind) (edge_count a) d

-- the numbers are those of a document that proves what it states of the instance that the arrays
-- are, which is true of it
pub record Accepts (kind : Kind) (a : Arrays) (numbers : List ℤ) : Type 0 where
  pub document : Document
  pub own : IsOfNumbers kind a numbers document
  pub proved : IsProved kind (network_of kind a) document
  pub truth : StatesTruth kind (network_of kind a) document

-- the numbers are those of a document of the kind that breaks this rule first, for the instance
-- that the arrays are
pub record BreaksFirst (kind : Kind) (a : Arrays) (numbers : List ℤ) (rule : DocRule) : Type 0 where
  pub document : Document
  pub own : IsOfNumbers kind a numbers document
  pub same_kind : document.kind ≡ kind
  pub line : ℕ
  pub broken : IsVerdict kind (network_of kind a) document (Rejected rule line)

-- no document of the kind has the numbers
abbrev pub HaveNoDocument : Kind → Arrays → List ℤ → Type 0
HaveNoDocument kind a numbers = (d : Document) → d.kind ≡ kind → IsOfNumbers kind a numbers d → ⊥

-- the numbers are accepted, or no document's, or those of one that breaks this rule first
abbrev pub HasVerdict : Kind → Arrays → List ℤ → Option DocRule → Type 0
HasVerdict kind a numbers None = Accepts kind a numbers
HasVerdict kind a numbers (Some rule) =
    ((rule ≡ DocForm) × HaveNoDocument kind a numbers) ⊎ BreaksFirst kind a numbers rule

-- no rule if the numbers are accepted; or the rule that they break; or why nothing was judged
abbrev pub Checks : Kind → Arrays → List ℤ → Result (Option DocRule) ArrayError → Type 0
Checks kind a numbers (Ok rule) = IsAnswerable kind a × HasVerdict kind a numbers rule
Checks kind a numbers (Err (Malformed f)) = array_fault kind a ≡ Some f
Checks kind a numbers (Err (TooLarge vertices edges)) =
    IsTooLarge kind a (record { vertices = vertices; edges = edges })
Checks kind a numbers (Err OutOfMemory) = Unit {0}

-- the same in numbers
abbrev pub GivesVerdict : Kind → Arrays → List ℤ → List ℤ → ArrayStatus → Type 0
GivesVerdict kind a numbers told status.Done = IsAnswerable kind a × Accepts kind a numbers
    × (told ≡ [])
GivesVerdict kind a numbers told status.Rejected = IsAnswerable kind a × (rule : DocRule)
    × HasVerdict kind a numbers (Some rule)
    × (told ≡ pos (number_of_document_rule rule) ∷ pos 0 ∷ [])
GivesVerdict kind a numbers told status.Malformed =
    (f : ArrayFault) × (array_fault kind a ≡ Some f) × (told ≡ fault_numbers f)
GivesVerdict kind a numbers told status.TooLarge =
    (size : Size) × IsTooLarge kind a size × (told ≡ size_numbers size)
GivesVerdict kind a numbers told status.OutOfMemory = told ≡ []
