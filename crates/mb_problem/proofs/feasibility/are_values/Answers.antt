use Rattle.graph_theory.proofs.Common.{refl, arith}
use Rattle.mb_problem.proofs.feasibility.are_values.Goals as goal

pub returns : goal.returns
returns c = ((λ _. λ j below. c.loop-k.invariant j (omega (arith, below, c.loop-k-test.false, c.requires))), (λ _. refl))
