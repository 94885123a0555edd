use Rattle.graph_theory.proofs.Common.{ℤ, List, ◌++◌, map, take}
use Rattle.array_call.specs.Laid.{HasItemsOf}
use Rattle.array_call.proofs.laying.push_paths.Given as goal

abbrev pub invariant-loop-r : goal.invariant-loop-r
invariant-loop-r l = (before : List (List ℤ)) → HasItemsOf before l.initial.items → HasItemsOf (before ++ map (λ r. r.edges) (take l.r-index l.paths)) l.items
