use Rattle.mb_problem.proofs.Common.{ℕ, ℤ, List, [], ◌∷◌, ◌++◌, map, Option, sym, ap, ◌∙◌, append-nil, signed_decimal, Row}
use Rattle.doc_format.specs.declared.part.MemberLine.{MemberLine}
use Rattle.doc_format.specs.Parts.{at_most_one}
use Rattle.doc_format.specs.Spelling.{row_text, part_row, parts_text, with_count}
use Rattle.doc_format.proofs.Spelled.{on_ok}
use Rattle.doc_format.proofs.line_writing.put_vertices.Goals as goal

pub returns-in-Some : goal.returns-in-Some
returns-in-Some c = λ made is.
    let out = c.args.out.now.items in
    on_ok c.put_members.result (λ put.
    put ∙ ap (λ (ns : List ℤ). out ++ row_text ((c.args.letter ∷ []) ∷ map signed_decimal (with_count ns))) c.as_slice.ensures
    ∙ ap (λ (row : Row). out ++ row_text row) (sym (is c.in-Some.line)) ∙ ap (λ (bytes : List ℕ). out ++ bytes) (sym (append-nil (row_text (part_row (made c.in-Some.line)))))
    ∙ ap (λ (o : Option MemberLine). out ++ parts_text (at_most_one made o)) (sym c.in-Some.is)) c.put_members.ensures

pub returns-in-None : goal.returns-in-None
returns-in-None c = λ made is.
    let out = c.args.out.now.items in
    sym (append-nil out) ∙ ap (λ (o : Option MemberLine). out ++ parts_text (at_most_one made o)) (sym c.in-None.is)
