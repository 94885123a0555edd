use Rattle.graph_theory.proofs.Common.{ℤ, List, ◌++◌, map, take}
use Rattle.array_call.specs.Layout.{set_list}
use Rattle.array_call.specs.Laid.{HasItemsOf}
use Rattle.array_call.proofs.laying.push_sets.Given as goal

abbrev pub invariant-loop-z : goal.invariant-loop-z
invariant-loop-z l = (before : List (List ℤ)) → HasItemsOf before l.initial.items → HasItemsOf (before ++ map set_list (take l.z-index l.sets)) l.items
