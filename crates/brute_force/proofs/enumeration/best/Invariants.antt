use Rattle.brute_force.specs.Tried.{IsBestBelow}
use Rattle.brute_force.proofs.enumeration.best.Given as goal

abbrev pub invariant-loop-code : goal.invariant-loop-code
invariant-loop-code l = IsBestBelow l.kind l.instance l.mosts.items l.code l.found
