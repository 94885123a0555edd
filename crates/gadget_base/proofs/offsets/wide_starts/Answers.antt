use Rattle.graph_theory.proofs.Common.{arith}
use Rattle.gadget_base.proofs.StartLemmas.{tabled-starts}
use Rattle.gadget_base.proofs.offsets.wide_starts.Goals as goal

pub returns : goal.returns
returns c = tabled-starts c.args.sizes.now _ c.loop-size.size-index c.loop-size.invariant.starts (omega (arith, c.loop-size-test.false, c.loop-size.auto.size-index-end))
