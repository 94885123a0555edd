use Rattle.alt_forest.proofs.Common.{◌-◌, length, edge_in}
use Rattle.mwpm_engine.proofs.EvenPaths.{IsEvenSoFar}
use Rattle.mwpm_engine.proofs.even_paths.alternate.Given as goal

abbrev pub invariant-loop-first : goal.invariant-loop-first
invariant-loop-first l = record { even : IsEvenSoFar l.graph (edge_in l.mates) (edge_in l.other) l.fn.v l.path.items l.at }

abbrev pub decreases-loop-first : goal.decreases-loop-first
decreases-loop-first l = l.graph.vertices - length l.path.items
