use Rattle.array_call.specs.Arrays.{arrays_of}
use Rattle.array_joins.specs.Answers.{GivesJoins}
use Rattle.blossom_c.proofs.Handing.{handed}
use Rattle.blossom_c.proofs.join_border.answer_sets.Goals as goal

pub returns : goal.returns
returns g c =
    let answer = c.joins_to-answer.result in
    handed (GivesJoins (arrays_of c.args.arrays.now) c.args.starts.now c.args.terminals.now) answer.numbers.items answer.status c.args.output.now c.hand_over.new.output c.hand_over.new.used
    c.hand_over.result c.joins_to-answer.ensures.gives c.hand_over.ensures
