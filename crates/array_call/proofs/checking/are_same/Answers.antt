use Rattle.graph_theory.proofs.Common.{pos, arith, ext_get_or}
use Rattle.array_call.proofs.checking.are_same.Goals as goal

pub returns-clause-yes : goal.returns-clause-yes
returns-clause-yes c = λ same. ext_get_or (pos 0) c.args.own.now c.args.numbers.now c.requires (λ j below. c.loop-k.invariant j (omega (arith, below, c.loop-k-test.false)))
