use Rattle.graph_theory.proofs.Common.{◌<◌, ◌-◌, length}
use Rattle.alt_forest.specs.Trees.{path_of}
use Rattle.alt_forest.specs.Searches.{state_of}
use Rattle.alt_forest.proofs.meet.heights.Given as goal

abbrev pub invariant-loop-node : goal.invariant-loop-node
invariant-loop-node l = record { some : 0 < l.reach; low : l.reach < 1073741824 }

abbrev pub decreases-loop-node : goal.decreases-loop-node
decreases-loop-node l = length (path_of (state_of l.search) l.a) - l.reach
