use Rattle.join_check.specs.Checks.{ArePostorder}
use Rattle.join_check.proofs.postorder.is_postorder.Given as goal

abbrev pub invariant-loop-node : goal.invariant-loop-node
invariant-loop-node l = ArePostorder l.befores l.node
