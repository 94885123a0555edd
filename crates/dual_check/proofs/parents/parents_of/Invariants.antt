use Rattle.dual_check.proofs.StepLemmas.{AreParentsTo}
use Rattle.dual_check.proofs.parents.parents_of.Given as goal

abbrev pub invariant-loop-set : goal.invariant-loop-set
invariant-loop-set l = AreParentsTo l.sets l.count l.set l.parents.items
