use Rattle.mb_problem.proofs.Common.{ap, ◌∙◌, true}
use Rattle.clap.specs.Words.{Rule, rule_of}
use Rattle.clap.specs.declared.builder.arg.Arg.{Arg}
use Rattle.match_cli.proofs.parse.with_wanted.Goals as goal

pub returns : goal.returns
returns c app =
    let rule = ap rule_of c.required.ensures ∙ ap (λ (r : Rule). record r { required = true }) c.new.ensures.rule in
    let local = ap (λ (a : Arg). a.global) c.required.ensures ∙ c.new.ensures.optional.1 in
    c.with_argument.ensures app _ (rule, local)
