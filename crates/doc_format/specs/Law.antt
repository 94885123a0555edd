-- What is written reads back.
use Rattle.std.specs.Prelude.{◌≡◌, ℕ, ◌≤◌, ℤ, nat_abs, map, All, false, Result, Ok, Err}
use Rattle.graph_theory.specs.declared.limits.TheConstants.{NUMBER_LIMIT}
use Rattle.doc_format.specs.declared.part.Part.{Part}
use Rattle.doc_format.specs.declared.document.Document.{Document}
use Rattle.doc_format.specs.declared.error.DocError.{DocError}
use Rattle.doc_format.specs.declared.error.DocError.TheVariants.{DocForm, OutOfMemory}
use Rattle.doc_format.specs.Parts.{parts_of, on_line, numbers_of}
use Rattle.doc_format.specs.Reading.{body_of, Reads}
use Rattle.doc_format.specs.Spelling.{document_text}

abbrev pub IsKept : ℤ → Type 0
IsKept z = nat_abs z ≤ nat_abs NUMBER_LIMIT

-- the numbers of a document, and the counts of its members, lie within the limit
pub record HasKeptNumbers (d : Document) : Type 0 where
  pub weight : IsKept d.weight
  pub parts : All (λ part. All IsKept (numbers_of part)) (parts_of (body_of d))

-- the part as if it stood on line 0
abbrev pub unnumbered : Part → Part
unnumbered part = on_line 0 part

-- two documents that say the same, line numbers aside
pub record SaysTheSame (d e : Document) : Type 0 where
  pub status : d.status ≡ e.status
  pub kind : d.kind ≡ e.kind
  pub weight : d.weight ≡ e.weight
  pub parts : map unnumbered (parts_of (body_of d)) ≡ map unnumbered (parts_of (body_of e))

abbrev pub GivesAgain : Document → Result Document DocError → Type 0
GivesAgain d (Ok e) = SaysTheSame d e
GivesAgain d (Err (DocForm line)) = ⊥
GivesAgain d (Err OutOfMemory) = Unit {0}

-- the full text of a document is read as the document, wherever it begins
abbrev pub ReadsBack : Type 0
ReadsBack = (d : Document) → HasKeptNumbers d → (n : ℕ) (answer : Result Document DocError)
    → Reads n (document_text d false) answer → GivesAgain d answer
