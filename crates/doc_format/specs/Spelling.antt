-- The one text of a document.
use Rattle.std.specs.Prelude.{ℕ, ℤ, List, [], ◌∷◌, ◌++◌, map, flat_map, codes, Bool, true, false}
use Rattle.std.specs.Fmt.{signed_decimal}
use Rattle.mb_base.specs.Rows.{Row}
use Rattle.doc_format.specs.declared.status.DocStatus.{DocStatus}
use Rattle.doc_format.specs.declared.status.DocStatus.TheVariants.{Optimal, NonConservative}
use Rattle.doc_format.specs.declared.part.Part.{Part}
use Rattle.doc_format.specs.declared.part.Part.TheVariants.{Count, Walk, Outer, Barrier}
use Rattle.mb_problem.specs.declared.kind.BestProof.{BestProof}
use Rattle.mb_problem.specs.declared.kind.BestProof.TheVariants.{Duals, LighterBarrier, OuterPaths}
use Rattle.mb_problem.specs.declared.kind.Kind.{Kind}
use Rattle.doc_format.specs.declared.document.Document.{Document}
use Rattle.mb_problem.specs.Kinds.{kind_text, proof_of}
use Rattle.doc_format.specs.Status.{status_text}
pub use Rattle.doc_format.specs.Numbers.{with_count}
pub use Rattle.doc_format.specs.Parts.{Body, at_most_one, parts_of, letter_text, letter_of}
pub use Rattle.doc_format.specs.Parts.{numbers_of, fields_of}
use Rattle.doc_format.specs.Reading.{body_of}

-- ---- lines

abbrev pub after_space : List ℕ → List ℕ
after_space field = 32 ∷ field

-- fields with one space between them, and a line feed
abbrev pub row_text : Row → List ℕ
row_text [] = 10 ∷ []
row_text (field ∷ others) = field ++ (flat_map after_space others ++ 10 ∷ [])

-- numbers with a space before each
abbrev pub spaced : List ℤ → List ℕ
spaced zs = flat_map after_space (map signed_decimal zs)

abbrev pub weight_fields : DocStatus → ℤ → Row
weight_fields Optimal weight = signed_decimal weight ∷ []
weight_fields status weight = []

abbrev pub head_row : DocStatus → Kind → ℤ → Row
head_row status kind weight =
    codes "s" ∷ status_text status ∷ kind_text kind ∷ weight_fields status weight

abbrev pub letter : Part → List ℕ
letter part = letter_text (letter_of part)

-- the letter and its fields
abbrev pub part_row : Part → Row
part_row part = letter part ∷ fields_of part

abbrev pub parts_text : List Part → List ℕ
parts_text parts = flat_map row_text (map part_row parts)

-- ---- documents

-- the walk, and the sets that are asked for beside an answer where paths prove it best
abbrev pub asked : BestProof → Body → List Part
asked (Duals value) body = at_most_one Walk body.walk
asked LighterBarrier body = at_most_one Walk body.walk
asked OuterPaths body =
    at_most_one Walk body.walk
    ++ (at_most_one Outer body.outer ++ at_most_one Barrier body.barrier)

-- the answer: counts or a walk, with the sets that are asked for, but no circuit of negative weight
abbrev pub answer : DocStatus → Kind → Body → List Part
answer NonConservative kind body = map Count body.counts
answer status kind body = map Count body.counts ++ asked (proof_of kind) body

abbrev pub written_parts : Document → Bool → List Part
written_parts d true = answer d.status d.kind (body_of d)
written_parts d false = parts_of (body_of d)

abbrev pub document_rows : Document → Bool → List Row
document_rows d brief = head_row d.status d.kind d.weight ∷ map part_row (written_parts d brief)

abbrev pub document_text : Document → Bool → List ℕ
document_text d brief = flat_map row_text (document_rows d brief)
