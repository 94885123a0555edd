use Rattle.graph_theory.proofs.Common.{◌≡◌, ◌∙◌, length, arith}
use Rattle.dual_check.proofs.narrow.left_out.Goals as goal

pub returns-clause-size : goal.returns-clause-size
returns-clause-size c =
    let all : c.loop-k.k ≡ length c.args.alone.now = omega (arith, c.loop-k-test.false, c.loop-k.auto.k-end) in
    c.loop-k.invariant.size ∙ all

pub returns-clause-flags : goal.returns-clause-flags
returns-clause-flags c = λ j b. c.loop-k.invariant.flags j (omega (arith, b, c.loop-k-test.false))
