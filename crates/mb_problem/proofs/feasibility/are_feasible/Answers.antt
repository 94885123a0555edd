use Rattle.graph_theory.proofs.Common.{false≢true}
use Rattle.mb_problem.proofs.KindLaws.{feasible-counts}
use Rattle.mb_problem.proofs.feasibility.are_feasible.Goals as goal

pub returns-then-not-has_counts : goal.returns-then-not-has_counts
returns-then-not-has_counts c =
    ((λ t. absurd (false≢true t)), (λ f. c.if-not-has_counts.ensures.1 (feasible-counts c.args.kind c.args.instance.now c.args.counts.now f)))
