use Rattle.dual_check.specs.Trees.{AreSizes}
use Rattle.dual_check.proofs.stretches.sizes_of.Given as goal

abbrev pub invariant-loop-set : goal.invariant-loop-set
invariant-loop-set l = AreSizes l.sets l.set l.sizes.items
