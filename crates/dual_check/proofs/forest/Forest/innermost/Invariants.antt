use Rattle.graph_theory.proofs.Common.{◌-◌}
use Rattle.dual_check.proofs.WayLemmas.{IsClimb}
use Rattle.dual_check.proofs.forest.Forest.innermost.Given as goal

abbrev pub invariant-loop-set : goal.invariant-loop-set
invariant-loop-set l = IsClimb l.count l.self l.p l.q l.set

abbrev pub decreases-loop-set : goal.decreases-loop-set
decreases-loop-set l = l.count - l.set
