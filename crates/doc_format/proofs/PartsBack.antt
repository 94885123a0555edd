-- A document's lines, written and read.
use Rattle.mb_problem.proofs.Common.{◌≡◌, ℕ, ◌+◌, true, false, List, [], ◌∷◌, map, Some, ℤ, pos, refl, sym, ap, arith, list_all, AllByRecursion, and_parts, is_skipped}
use Rattle.mb_problem.proofs.Common.{kind-back, kind-field, IsField}
use Rattle.mb_problem.specs.declared.kind.Kind.{Kind}
use Rattle.doc_format.specs.declared.status.DocStatus.{DocStatus}
use Rattle.doc_format.specs.declared.status.DocStatus.TheVariants.{Optimal, Infeasible, NonConservative}
use Rattle.doc_format.specs.declared.part.Part.{Part}
use Rattle.doc_format.specs.Status.{status_text, status_named}
use Rattle.doc_format.specs.Parts.{letter_of, fields_of, on_line, is_formed}
use Rattle.doc_format.specs.Form.{is_head, is_best}
use Rattle.doc_format.specs.Rows.{head_at, weight_in}
use Rattle.doc_format.specs.Reading.{parts_from}
use Rattle.doc_format.proofs.Fields.{HasFields}
use Rattle.doc_format.specs.Law.{IsKept, unnumbered}
use Rattle.doc_format.specs.Spelling.{part_row, head_row, weight_fields}
use Rattle.doc_format.proofs.NumbersBack.{kept_back, number_is_field}
use Rattle.doc_format.proofs.PartLaws.{letter_laws, line_laws, HasKept, part_back, fields_are_fields}

-- parts on consecutive lines
abbrev pub on_lines : ℕ → List Part → List Part
on_lines n [] = []
on_lines n (part ∷ parts) = on_line n part ∷ on_lines (n + 1) parts

pub part_there : (part : Part) → is_skipped (part_row part) ≡ false
part_there part = (letter_laws (letter_of part)).there (fields_of part)

pub unnumbered_all : (n : ℕ) (parts : List Part) → map unnumbered (on_lines n parts) ≡ map unnumbered parts
unnumbered_all n [] = refl
unnumbered_all n (part ∷ parts) = rw ((line_laws n part).same_bare) (ap (λ (l : List Part). unnumbered part ∷ l) (unnumbered_all (n + 1) parts))

pub part_has_fields : (part : Part) → HasKept part → HasFields (part_row part)
part_has_fields part h = ((letter_laws (letter_of part)).field, fields_are_fields part h)

-- ---- the first line

status_back : (status : DocStatus) → status_named (status_text status) ≡ Some status
status_back Optimal = refl
status_back Infeasible = refl
status_back NonConservative = refl

weight_back : (status : DocStatus) (weight : ℤ) → IsKept weight → (is_best status ≡ false → weight ≡ pos 0) → weight_in status (weight_fields status weight) ≡ Some weight
weight_back Optimal weight h none = kept_back weight h
weight_back Infeasible weight h none = ap (λ (z : ℤ). Some z) (sym (none refl))
weight_back NonConservative weight h none = ap (λ (z : ℤ). Some z) (sym (none refl))

pub head_back : (n : ℕ) (status : DocStatus) (kind : Kind) (weight : ℤ) → IsKept weight → is_head status kind ≡ true → (is_best status ≡ false → weight ≡ pos 0) →
    head_at n (head_row status kind weight) ≡ Some (record { line = n; status = status; kind = kind; weight = weight })
head_back n status kind weight h table none = rw (status_back status, kind-back kind, weight_back status weight h none, table) refl

status_is_field : (status : DocStatus) → IsField (status_text status)
status_is_field Optimal = (omega arith, refl)
status_is_field Infeasible = (omega arith, refl)
status_is_field NonConservative = (omega arith, refl)

weight_has_fields : (status : DocStatus) (weight : ℤ) → IsKept weight → HasFields (weight_fields status weight)
weight_has_fields Optimal weight h = (number_is_field weight h, tt)
weight_has_fields Infeasible weight h = tt
weight_has_fields NonConservative weight h = tt

pub head_has_fields : (status : DocStatus) (kind : Kind) (weight : ℤ) → IsKept weight → HasFields (head_row status kind weight)
head_has_fields status kind weight h = ((omega arith, refl), (status_is_field status, (kind-field kind, weight_has_fields status weight h)))

-- ---- all lines

pub parts_back : (n : ℕ) (parts : List Part) → AllByRecursion HasKept parts → list_all is_formed parts ≡ true → parts_from n (map part_row parts) ≡ on_lines n parts
parts_back n [] h f = refl
parts_back n (part ∷ parts) h f = let g =
    and_parts (is_formed part) (list_all is_formed parts) f in rw (part_back n part h.0 g.0) (ap (λ (l : List Part). on_line n part ∷ l) (parts_back (n + 1) parts h.1 g.1))

pub parts_have_fields : (parts : List Part) → AllByRecursion HasKept parts → AllByRecursion HasFields (map part_row parts)
parts_have_fields [] h = tt
parts_have_fields (part ∷ parts) h = (part_has_fields part h.0, parts_have_fields parts h.1)
