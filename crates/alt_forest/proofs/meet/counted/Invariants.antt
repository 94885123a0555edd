use Rattle.alt_forest.proofs.Routes.{IsCounted}
use Rattle.alt_forest.proofs.meet.counted.Given as goal

abbrev pub invariant-loop-nodes : goal.invariant-loop-nodes
invariant-loop-nodes l = IsCounted l.fn.path l.rest l.nodes
