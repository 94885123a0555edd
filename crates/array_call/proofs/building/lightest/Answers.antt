use Rattle.certificates.proofs.Common.{◌≡◌, true, List, length, All, Option, Some, sym, subst, rules, CountLine, MemberLine, Body, blank, ascends, AscendsBy}
use Rattle.solve_kinds.proofs.DualFreeForms.{form-lightest}
use Rattle.doc_format.proofs.OnePartMore.{formed-as}
use Rattle.array_call.specs.Sheets.{IsCountOn}
use Rattle.array_call.proofs.building.lightest.Goals as goal

pub invariant_of-document : goal.invariant_of-document
invariant_of-document c =
    let counts : List CountLine = c.from_vec-counts.result in
    let barrier : Option MemberLine = Some c.in_ok-barrier.barrier in
    let ascending : ascends c.in_ok-barrier.barrier.members ≡ true = search rules in
    record {
      form = formed-as c.new-document.result _ blank (λ (b : Body). record b { counts = counts; barrier = barrier }) c.new-document.ensures.head c.new-document.ensures.body
          (form-lightest c.args.kind _ counts barrier c.requires.proof
          (subst (λ (xs : List CountLine). AscendsBy (λ x. x.edge) xs) (sym c.from_vec-counts.ensures) c.in_ok-count_lines.ensures.ascending) ascending);
    }

pub returns-clause-counts : goal.returns-clause-counts
returns-clause-counts c =
    subst (λ (xs : List CountLine). All (IsCountOn (length c.args.parts.now.answer.now)) xs) (sym c.from_vec-counts.ensures) c.in_ok-count_lines.ensures.within
