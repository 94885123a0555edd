use Rattle.alt_forest.specs.Trees.{first_common}
use Rattle.alt_forest.proofs.Routes.{IsSearched}
use Rattle.alt_forest.proofs.meet.first_shared.Given as goal

abbrev pub invariant-loop-node : goal.invariant-loop-node
invariant-loop-node l = IsSearched l.node-iterator l.other (first_common l.fn.left l.fn.right)
