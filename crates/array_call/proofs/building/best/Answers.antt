use Rattle.certificates.proofs.Common.{AnswerForm, subst}
use Rattle.array_call.specs.Sheets.{IsAnswerOn, sheet_of}
use Rattle.array_call.proofs.Founds.{unanswered}
use Rattle.array_call.proofs.building.best.Goals as goal

pub returns-then-not-is_answer-clause-found : goal.returns-then-not-is_answer-clause-found
returns-then-not-is_answer-clause-found c =
    let answer = c.args.parts.now.answer.now in
    unanswered c.args.kind c.args.m (sheet_of c.args.parts.now)
    (subst (λ (f : AnswerForm). IsAnswerOn f c.args.m answer → ⊥) c.form.ensures (c.is_answer.ensures.no c.if-not-is_answer.true))
