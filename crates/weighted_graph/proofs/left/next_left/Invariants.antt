use Rattle.weighted_graph.specs.Left.{NoneLeft}
use Rattle.weighted_graph.proofs.left.next_left.Given as goal

abbrev pub invariant-loop-place : goal.invariant-loop-place
invariant-loop-place l = NoneLeft l.left l.numbers l.place
