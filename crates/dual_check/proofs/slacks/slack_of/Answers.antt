use Rattle.graph_theory.proofs.Common.{arith, rules, ◌≡◌, to_z, of_z, ints, w128}
use Rattle.dual_check.proofs.slacks.slack_of.Goals as goal

pub overflow_sub-result : goal.overflow_sub-result
overflow_sub-result c = omega (arith, ints)

pub overflow_sub-result-2 : goal.overflow_sub-result-2
overflow_sub-result-2 c = omega (arith, ints)

pub returns : goal.returns
returns c =
    let same : to_z w128 (of_z w128 c.args.crossed) ≡ c.args.crossed = search rules in
    omega (arith, ints)
