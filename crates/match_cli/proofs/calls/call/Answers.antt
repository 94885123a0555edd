use Rattle.mb_problem.proofs.Common.{sym, subst}
use Rattle.match_cli.specs.declared.command.Command.{Command}
use Rattle.match_cli.specs.Arguments.{HasRanges}
use Rattle.match_cli.specs.Answers.{Gives}
use Rattle.match_cli.proofs.Decided.{tells_true}
use Rattle.match_cli.proofs.AcceptedAgain.{accepted_behind}
use Rattle.match_cli.proofs.Completeness.{is_complete}
use Rattle.match_cli.specs.Calls.{command_for}
use Rattle.match_cli.proofs.TaskAnswers.{ranges_for, calls}
use Rattle.match_cli.proofs.calls.call.Goals as goal

pub answer_to-requires : goal.answer_to-requires
answer_to-requires g c = record { ranges = subst HasRanges (sym c.command_for.ensures) (ranges_for c.args.task c.args.kind) }

pub returns-in-Ok-clause-answer : goal.returns-in-Ok-clause-answer
returns-in-Ok-clause-answer g c =
    let a = c.in-Ok.answer in
    calls (command_for c.args.task c.args.kind) c.args.bytes.now a.text.items a.status
    (subst (λ (k : Command). Gives k c.args.bytes.now a.text.items a.status) c.command_for.ensures c.in-Ok.ensures.answer)

pub returns-in-Ok-clause-truth : goal.returns-in-Ok-clause-truth
returns-in-Ok-clause-truth g c =
    let a = c.in-Ok.answer in
    tells_true (command_for c.args.task c.args.kind) c.args.bytes.now a.text.items a.status
    (subst (λ (k : Command). Gives k c.args.bytes.now a.text.items a.status) c.command_for.ensures c.in-Ok.ensures.answer)

pub returns-in-Ok-clause-again : goal.returns-in-Ok-clause-again
returns-in-Ok-clause-again g c =
    let a = c.in-Ok.answer in
    accepted_behind (command_for c.args.task c.args.kind) c.args.bytes.now a.text.items a.status
    (subst (λ (k : Command). Gives k c.args.bytes.now a.text.items a.status) c.command_for.ensures c.in-Ok.ensures.answer)

pub returns-in-Ok-clause-complete : goal.returns-in-Ok-clause-complete
returns-in-Ok-clause-complete g c =
    let a = c.in-Ok.answer in
    is_complete (command_for c.args.task c.args.kind) c.args.bytes.now a.text.items a.status
    (subst (λ (k : Command). Gives k c.args.bytes.now a.text.items a.status) c.command_for.ensures c.in-Ok.ensures.answer)
