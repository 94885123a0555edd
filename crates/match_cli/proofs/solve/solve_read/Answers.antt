use Rattle.match_cli.proofs.SolveAnswers.{solve_answers}
use Rattle.match_cli.proofs.StepCounts.{counted_for}
use Rattle.match_cli.proofs.solve.solve_read.Goals as goal

pub returns-in-Ok-clause-answer : goal.returns-in-Ok-clause-answer
returns-in-Ok-clause-answer g c = λ bytes reads.
    (let is = rw c.in-Ok.is at reads in
    solve_answers c.args.kind c.args.detail bytes c.in-Ok.instance c.in-Ok.rest c.solve_followed-reply.result is.0 is.1 c.solve_followed-reply.ensures.answer)

pub returns-in-Ok-clause-counted : goal.returns-in-Ok-clause-counted
returns-in-Ok-clause-counted g c = λ bytes reads.
    (let is = rw c.in-Ok.is at reads in
    counted_for c.args.kind c.args.detail bytes c.in-Ok.instance c.args.steps.now c.solve_followed-reply.new.steps is.0 c.solve_followed-reply.ensures.counted)
