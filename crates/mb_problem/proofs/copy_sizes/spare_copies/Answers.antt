use Rattle.graph_theory.proofs.Common.{◌≡◌, length, sum_to, arith, ap, ◌∙◌}
use Rattle.mb_problem.proofs.copy_sizes.spare_copies.Goals as goal

pub returns-clause-spare : goal.returns-clause-spare
returns-clause-spare c =
    let each : length c.args.instance.now.highs ≡ length c.args.instance.now.values = c.high_list-high-items.ensures.network.high_each in
    c.loop-k.invariant.sum ∙ ap (sum_to _) (omega (arith, c.loop-k-test.false, c.loop-k.auto.k-end, ap length c.high_list-high-items.ensures.list, each))
