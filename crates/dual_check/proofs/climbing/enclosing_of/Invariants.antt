use Rattle.graph_theory.proofs.Common.{◌-◌}
use Rattle.dual_check.proofs.EnclosingLemmas.{AreEnclosingFrom}
use Rattle.dual_check.proofs.climbing.enclosing_of.Given as goal

abbrev pub invariant-loop-k : goal.invariant-loop-k
invariant-loop-k l = AreEnclosingFrom l.sets l.count l.parents (l.count - l.k) l.enclosing.items
