use Rattle.dual_check.proofs.OverlapLemmas.{KeepsLast, IsLeast}
use Rattle.dual_check.proofs.overlap.first_overlap.Given as goal

abbrev pub invariant-loop-position : goal.invariant-loop-position
invariant-loop-position l = record { keeps : KeepsLast l.forest l.vertices l.position l.last.items; least : IsLeast l.forest l.count l.position l.least }
