-- What a document that excludes all answers is made of.
use Rattle.std.specs.Prelude.{◌≡◌, ℕ, pos, List, Some}
use Rattle.mb_problem.specs.declared.kind.Kind.{Kind}
use Rattle.mb_problem.specs.declared.kind.Obstruction.{Obstruction}
use Rattle.mb_problem.specs.declared.kind.Obstruction.TheVariants.{Barrier, OddPart, SplitPart}
use Rattle.mb_problem.specs.declared.kind.Obstruction.TheVariants.{Never}
use Rattle.mb_problem.specs.Kinds.{obstruction_of}
use Rattle.doc_format.specs.declared.document.Document.{Document}
use Rattle.doc_format.specs.declared.status.DocStatus.TheVariants.{Infeasible}
use Rattle.doc_format.specs.declared.part.MemberLine.{MemberLine}
use Rattle.doc_format.specs.Parts.{Body, blank}
use Rattle.doc_format.specs.Reading.{body_of}
use Rattle.document_lines.specs.Lines.{member_line}

-- no part but such a line, by the letter of what excludes answers
abbrev pub set_body : Obstruction → MemberLine → Body
set_body Barrier u = record blank { barrier = Some u }
set_body OddPart t = record blank { odd = Some t }
set_body SplitPart q = record blank { split = Some q }
set_body Never u = blank

-- no part but this line, whose letter is that of what excludes the kind's answers
pub record StatesLine (kind : Kind) (u : MemberLine) (d : Document) : Type 0 where
  pub status : d.status ≡ Infeasible
  pub kind_is : d.kind ≡ kind
  pub weight : d.weight ≡ pos 0
  pub body : body_of d ≡ set_body (obstruction_of kind) u

-- no part but the line of the set
abbrev pub StatesSet : Kind → List ℕ → Document → Type 0
StatesSet kind set d = StatesLine kind (member_line set) d
