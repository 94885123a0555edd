use Rattle.array_call.specs.Arrays.{arrays_of}
use Rattle.array_call.specs.Answers.{Gives}
use Rattle.blossom_c.proofs.Handing.{handed}
use Rattle.blossom_c.proofs.array_border.solve.Goals as goal

pub returns : goal.returns
returns g c =
    let answer = c.answer_to-answer.result in
    handed (Gives c.args.detail c.args.kind (arrays_of c.args.arrays.now)) answer.numbers.items answer.status c.args.output.now c.hand_over.new.output c.hand_over.new.used c.hand_over.result
    c.answer_to-answer.ensures.answer c.hand_over.ensures
