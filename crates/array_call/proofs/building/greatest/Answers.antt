use Rattle.certificates.proofs.Common.{List, length, map, All, Some, sym, ap, ◌∙◌, subst, CountLine, PathLine, Body, blank, ascends, AscendsBy}
use Rattle.solve_kinds.proofs.DualFreeForms.{form-greatest}
use Rattle.doc_format.proofs.OnePartMore.{formed-as}
use Rattle.array_call.specs.Sheets.{IsCountOn}
use Rattle.array_call.proofs.building.greatest.Goals as goal

pub invariant_of-document : goal.invariant_of-document
invariant_of-document c =
    let counts : List CountLine = c.from_vec-counts.result in
    let outer = c.in_ok-outer.outer in
    let border = c.in_ok-border.border in
    let paths : List PathLine = c.from_vec-paths.result in
    let starts = ap (λ (rs : List PathLine). map (λ (r : PathLine). r.vertex) rs) c.from_vec-paths.ensures ∙ c.requires.paths in
    record {
      form = formed-as c.new-document.result _ blank (λ (b : Body). record b { counts = counts; outer = Some outer; barrier = Some border; paths = paths })
          c.new-document.ensures.head c.new-document.ensures.body
          (form-greatest outer border paths c.args.kind _ counts c.requires.proof
          (subst (λ (xs : List CountLine). AscendsBy (λ x. x.edge) xs) (sym c.from_vec-counts.ensures) c.in_ok-count_lines.ensures.ascending)
          (ap ascends c.in_ok-outer.ensures ∙ c.requires.outer) (ap ascends c.in_ok-border.ensures ∙ c.requires.border) (ap ascends starts ∙ c.requires.outer));
    }

pub returns-clause-counts : goal.returns-clause-counts
returns-clause-counts c =
    subst (λ (xs : List CountLine). All (IsCountOn (length c.args.parts.now.answer.now)) xs) (sym c.from_vec-counts.ensures) c.in_ok-count_lines.ensures.within
