use Rattle.graph_theory.proofs.Common.{sum_to, arith, ap, ◌∙◌}
use Rattle.mb_problem.proofs.layer_sizes.count_marks.Goals as goal

pub returns-clause-standing : goal.returns-clause-standing
returns-clause-standing c = c.loop-k.invariant.sum ∙ ap (sum_to _) (omega (arith, c.loop-k-test.false, c.loop-k.auto.k-end))

pub returns-clause-both : goal.returns-clause-both
returns-clause-both c = c.loop-k.invariant.both ∙ ap (sum_to _) (omega (arith, c.loop-k-test.false, c.loop-k.auto.k-end))
