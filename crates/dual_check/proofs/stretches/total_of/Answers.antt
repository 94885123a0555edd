use Rattle.graph_theory.proofs.Common.{◌≡◌, ◌∙◌, ap, arith}
use Rattle.dual_check.specs.Trees.{roots_to}
use Rattle.dual_check.proofs.stretches.total_of.Goals as goal

pub returns : goal.returns
returns c =
    let all : c.loop-set.set ≡ c.args.count = omega (arith, c.loop-set-test.false, c.loop-set.auto.set-end) in
    c.loop-set.invariant ∙ ap (roots_to c.args.count c.args.parents.now c.args.sizes.now) all
