use Rattle.graph_theory.proofs.Common.{length, sum_to, arith, ap, ◌∙◌}
use Rattle.mb_problem.proofs.size.all_ports.Goals as goal

pub returns-clause-ports : goal.returns-clause-ports
returns-clause-ports c = c.loop-k.invariant.ports ∙ ap (sum_to _) (omega (arith, c.loop-k-test.false, c.loop-k.auto.k-end, ap length c.value_list-value-items.ensures.list))

pub returns-clause-pairs : goal.returns-clause-pairs
returns-clause-pairs c = c.loop-k.invariant.pairs ∙ ap (sum_to _) (omega (arith, c.loop-k-test.false, c.loop-k.auto.k-end, ap length c.value_list-value-items.ensures.list))
