use Rattle.graph_theory.proofs.Common.{◌≡◌, ℕ, subst, IfOk}
use Rattle.cert_check.specs.declared.rule.DocRule.TheVariants.{DocForm}
use Rattle.check_text.specs.Lines.{rejected_line}
use Rattle.check_text.proofs.Checks.{rest_answers, form_answers}
use Rattle.check_text.proofs.checking.check_rest.Goals as goal

pub returns-in-Ok : goal.returns-in-Ok
returns-in-Ok c =
    rest_answers c.args.kind c.args.instance.now c.args.rest.line c.args.rest.bytes c.in-Ok.document c.check_document-reply.result c.in-Ok.ensures c.check_document-reply.ensures

pub returns-in-Err-DocForm : goal.returns-in-Err-DocForm
returns-in-Err-DocForm c =
    let refused = rw c.in-Err-DocForm.field-0-is at c.in-Err-DocForm.ensures in
    let text : IfOk c.rejected.result (λ a. a.text.items ≡ rejected_line DocForm c.in-Err-DocForm.line) =
    subst (λ (l : ℕ). IfOk c.rejected.result (λ a. a.text.items ≡ rejected_line DocForm l)) c.in-Err-DocForm.line-is c.rejected.ensures.text in
    form_answers c.args.kind c.args.instance.now c.args.rest.line refused.0 c.in-Err-DocForm.line c.args.rest.bytes c.rejected.result refused.1 refused.2 text c.rejected.ensures.status
