use Rattle.mb_problem.proofs.Common.{ap₂, ◌∙◌, IfOk-weaker}
use Rattle.clap.specs.Words.{App, with_subcommand}
use Rattle.match_cli.proofs.parse.with_command.Goals as goal

pub returns : goal.returns
returns c = λ app sub is own.
    let made = rw c.in-Ok.is at is in
    let part = rw c.in-Ok-subcommand.is at own in
    IfOk-weaker c.subcommand.result _ _ (λ n adds. adds.shape part.1 ∙ ap₂ (λ (x y : App). with_subcommand x y.top) made part.0) c.subcommand.ensures
