use Rattle.graph_theory.proofs.Common.{◌≡◌, ◌-◌, length}
use Rattle.dual_check.specs.Trees.{AreJumps}
use Rattle.dual_check.proofs.climbing.jumps_of.Given as goal

abbrev pub invariant-loop-k : goal.invariant-loop-k
invariant-loop-k l = record { jumps : AreJumps l.count l.parents (l.count - l.k) l.jumps.items; lengths : length l.lengths.items ≡ l.count }
