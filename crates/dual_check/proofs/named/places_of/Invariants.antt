use Rattle.graph_theory.proofs.Common.{◌≡◌, length}
use Rattle.dual_check.specs.Trees.{AreOwn}
use Rattle.dual_check.proofs.named.places_of.Given as goal

abbrev pub invariant-loop-set : goal.invariant-loop-set
invariant-loop-set l = record { size : length l.places.items ≡ l.total; own : AreOwn l.sets l.set l.begins l.places.items }
