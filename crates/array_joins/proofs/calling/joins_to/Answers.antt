use Rattle.array_call.specs.Arrays.{arrays_of}
use Rattle.array_joins.proofs.Sizes.{joins-few}
use Rattle.array_joins.proofs.calling.joins_to.Goals as goal

pub returns-in-Ok-clause-room : goal.returns-in-Ok-clause-room
returns-in-Ok-clause-room g c =
    let answer = c.in-Ok.answer in
    joins-few (arrays_of c.args.arrays.now) c.args.starts.now c.args.terminals.now answer.numbers.items answer.status c.in-Ok.ensures.answer
