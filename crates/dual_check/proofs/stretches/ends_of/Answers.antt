use Rattle.graph_theory.proofs.Common.{arith, ◌≡◌, ◌∙◌}
use Rattle.dual_check.proofs.TreeLemmas.{fits}
use Rattle.dual_check.proofs.stretches.ends_of.Goals as goal

pub overflow_add-begins : goal.overflow_add-begins
overflow_add-begins c =
    let f = fits c.args.sets.now c.args.count c.args.parents.now c.args.sizes.now 0 c.args.begins.now c.requires.spread c.loop-set.set (omega arith) c.loop-set-test.true in
    omega (arith, f, c.requires.room)

pub returns : goal.returns
returns c =
    let all : c.loop-set.set ≡ c.args.count = omega (arith, c.loop-set-test.false, c.loop-set.auto.set-end) in
    record { size = c.loop-set.invariant.size ∙ all; each = λ j b. c.loop-set.invariant.each j (omega (arith, b, all)) }
