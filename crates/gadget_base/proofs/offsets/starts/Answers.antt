use Rattle.graph_theory.proofs.Common.{slice_index, length, arith, sum_to-grows}
use Rattle.gadget_base.proofs.StartLemmas.{tabled-starts}
use Rattle.gadget_base.proofs.offsets.starts.Goals as goal

pub overflow_add-total : goal.overflow_add-total
overflow_add-total c =
    omega (arith, sum_to-grows (λ k. slice_index c.args.sizes.now k) c.loop-size.size-index (length c.args.sizes.now) c.loop-size-test.true)

pub returns : goal.returns
returns c = tabled-starts c.args.sizes.now _ c.loop-size.size-index c.loop-size.invariant.starts (omega (arith, c.loop-size-test.false, c.loop-size.auto.size-index-end))
