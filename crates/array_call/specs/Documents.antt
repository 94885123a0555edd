-- Which documents have given parts of numbers.
use Rattle.std.specs.Prelude.{◌≡◌, ℕ, ℤ, pos, List, length, map, Option, None, Some}
use Rattle.mb_problem.specs.declared.kind.Kind.{Kind}
use Rattle.mb_problem.specs.declared.kind.AnswerForm.{AnswerForm}
use Rattle.mb_problem.specs.declared.kind.AnswerForm.TheVariants as form
use Rattle.mb_problem.specs.Kinds.{form_of}
use Rattle.doc_format.specs.declared.document.Document.{Document}
use Rattle.doc_format.specs.declared.part.CountLine.{CountLine}
use Rattle.doc_format.specs.declared.part.WalkLine.{WalkLine}
use Rattle.certificates.specs.Claims.{counts_of}
use Rattle.array_call.specs.Layout.{head, start_number, walk_numbers, answer_numbers, excluding}
use Rattle.array_call.specs.Layout.{leads, lists, offsets, all_items}
use Rattle.array_call.specs.Sheets.{Sheet}

-- the parts of the numbers of a document with an answer of this form on m edges
abbrev pub sheet_for : AnswerForm → ℕ → Document → Sheet
sheet_for f m d = record {
  head = head d.status d.weight (start_number d.walk) (pos (length (answer_numbers f m d)))
      (pos (length d.duals)) (pos (length (leads d.sets d.paths)))
      (pos (length (all_items (lists d.sets d.paths)))) (pos (length (excluding d)));
  answer = answer_numbers f m d;
  duals = map (λ y. y.dual) d.duals;
  leads = leads d.sets d.paths;
  offsets = offsets (lists d.sets d.paths);
  items = all_items (lists d.sets d.paths);
  excluding = excluding d;
}

-- the parts are those of a document of the kind
pub record IsSheetOf (kind : Kind) (m : ℕ) (s : Sheet) (d : Document) : Type 0 where
  pub same_kind : d.kind ≡ kind
  pub same_sheet : s ≡ sheet_for (form_of kind) m d

-- no document of the kind has these parts
abbrev pub AreNoDocument : Kind → ℕ → Sheet → Type 0
AreNoDocument kind m s = (d : Document) → IsSheetOf kind m s d → ⊥

-- this document has these parts, if any document of the kind has them
abbrev pub IsMadeOf : Kind → ℕ → Sheet → Document → Type 0
IsMadeOf kind m s b = (d : Document) → IsSheetOf kind m s d → s ≡ sheet_for (form_of kind) m b

-- a document has these parts if any has them, and if none is found, none has them
abbrev pub IsFound : Kind → ℕ → Sheet → Option Document → Type 0
IsFound kind m s None = AreNoDocument kind m s
IsFound kind m s (Some b) = IsMadeOf kind m s b

-- the lists have these offsets and items, as many as there are leads
pub record HasLists (s : Sheet) (xss : List (List ℤ)) : Type 0 where
  pub count : length xss ≡ length s.leads
  pub offsets : s.offsets ≡ offsets xss
  pub items : s.items ≡ all_items xss

-- the lines state these numbers: the count of each of m edges, or the edges of a walk
abbrev pub StatesNumbers : AnswerForm → ℕ → List CountLine → Option WalkLine → List ℤ → Type 0
StatesNumbers form.Counts m counts walk numbers = map pos (counts_of counts m) ≡ numbers
StatesNumbers form.Walk m counts walk numbers = walk_numbers walk ≡ numbers
