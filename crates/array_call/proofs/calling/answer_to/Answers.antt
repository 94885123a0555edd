use Rattle.solve_answers.specs.Details.{is_brief}
use Rattle.array_call.specs.Arrays.{arrays_of}
use Rattle.array_call.proofs.Briefs.{given-brief, none-brief, brief-size}
use Rattle.array_call.proofs.calling.answer_to.Goals as goal

pub returns-in-Ok-clause-brief : goal.returns-in-Ok-clause-brief
returns-in-Ok-clause-brief g c = given-brief c.args.detail c.args.kind (arrays_of c.args.arrays.now) c.in-Ok.answer.numbers.items c.in-Ok.answer.status c.in-Ok.ensures.answer

pub returns-in-Err-clause-brief : goal.returns-in-Err-clause-brief
returns-in-Err-clause-brief g c = none-brief (is_brief c.args.detail) _

pub returns-in-Ok-clause-room : goal.returns-in-Ok-clause-room
returns-in-Ok-clause-room g c brief =
    let answer = c.in-Ok.answer in
    brief-size c.args.detail c.args.kind (arrays_of c.args.arrays.now) answer.numbers.items answer.status brief c.in-Ok.ensures.answer
