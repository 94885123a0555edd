use Rattle.certificates.proofs.Common.{sym, subst, Values, graph_of}
use Rattle.graph_parts.specs.OddParts.{IsJoinOrOdd, IsFirstOddPart, is_terminal}
use Rattle.solve_answers.proofs.PartDocuments.{no-odd_part, settles-odd}
use Rattle.solve_answers.proofs.SettlingSets.{bare-set}
use Rattle.solve_answers.proofs.parts.odd_part.Goals as goal

pub returns-in-Join : goal.returns-in-Join
returns-in-Join c =
    no-odd_part c.args.kind c.args.instance.now c.in-Join.field-0.edges c.requires.kind (subst (IsJoinOrOdd Values c.args.instance.now) c.in-Join.is c.in_ok-join_or_odd.ensures.outcome)

pub returns : goal.returns
returns c =
    let i = c.args.instance.now in
    let part : IsFirstOddPart (graph_of i) (is_terminal Values i) c.in-OddSet.part = (subst (IsJoinOrOdd Values i) c.in-OddSet.is c.in_ok-join_or_odd.ensures.outcome).0 in
    let d = c.in_ok-document-in-OddSet.field-0 in (
      settles-odd c.args.kind i c.as_slice.result.now d c.requires.kind c.requires.network c.requires.weights
          (subst (IsFirstOddPart (graph_of i) (is_terminal Values i)) (sym c.as_slice.ensures) part) c.in_ok-document-in-OddSet.ensures,
      bare-set c.args.kind c.as_slice.result.now d c.in_ok-document-in-OddSet.ensures,
    )
