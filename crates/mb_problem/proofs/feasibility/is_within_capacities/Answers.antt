use Rattle.graph_theory.proofs.Common.{length, refl, arith, ap}
use Rattle.mb_problem.proofs.feasibility.is_within_capacities.Goals as goal

pub returns : goal.returns
returns c = ((λ _. λ j below. c.loop-k.invariant j (omega (arith, below, c.loop-k-test.false, ap length c.edge_list-edge-items.ensures.list))), (λ _. refl))
