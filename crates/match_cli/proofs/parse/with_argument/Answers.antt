use Rattle.mb_problem.proofs.Common.{ap₂, ◌∙◌, ◌||◌, IfOk-weaker}
use Rattle.clap.specs.Words.{with_rule}
use Rattle.match_cli.proofs.parse.with_argument.Goals as goal

pub returns : goal.returns
returns c = λ app rule argument is.
    let made = rw c.in-Ok.is at is in
    IfOk-weaker c.arg.result _ _ (λ n adds. (adds.shape argument.1 ∙ ap₂ with_rule made.0 argument.0, adds.globals ∙ ap₂ ◌||◌ made.1 argument.1)) c.arg.ensures
