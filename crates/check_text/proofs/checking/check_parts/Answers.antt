use Rattle.check_text.proofs.Checks.{check_answers}
use Rattle.check_text.proofs.checking.check_parts.Goals as goal

pub returns-in-Ok : goal.returns-in-Ok
returns-in-Ok c = λ bytes reads.
    (let is = rw c.in-Ok.is at reads in check_answers c.args.kind bytes c.in-Ok.instance c.in-Ok.rest c.check_instance-reply.result is.0 is.1 c.check_instance-reply.ensures)
