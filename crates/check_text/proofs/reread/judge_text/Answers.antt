use Rattle.certificates.proofs.Common.{◌∙◌, Err, ap, subst, IfOk-weaker, DocError, GivesAgain, reads_back, holds_the_same, proved-same}
use Rattle.check_text.proofs.reread.judge_text.Goals as goal

pub returns-in-Ok : goal.returns-in-Ok
returns-in-Ok c =
    let d = c.args.document.now in
    let e = c.in-Ok.again in
    IfOk-weaker c.judge-verdict.result _ _
    (λ v same. same.1 (proved-same c.args.kind c.args.instance.now d e (holds_the_same d e 1 c.requires.kept c.in-Ok.ensures) c.requires.proved)) c.judge-verdict.ensures.accepted

pub returns-in-Err-DocForm : goal.returns-in-Err-DocForm
returns-in-Err-DocForm c =
    let d = c.args.document.now in
    let again : GivesAgain d c.read_back.result = reads_back d c.requires.kept 1 c.read_back.result c.read_back.ensures in
    absurd (subst (GivesAgain d) (c.in-Err-DocForm.is ∙ ap (λ (e : DocError). Err e) c.in-Err-DocForm.field-0-is) again)
