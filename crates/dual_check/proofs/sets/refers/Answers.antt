use Rattle.graph_theory.proofs.Common.{arith}
use Rattle.dual_check.proofs.sets.refers.Goals as goal

pub returns : goal.returns
returns c = λ none j b. c.loop-set.invariant j (omega (arith, b, c.loop-set-test.false))
