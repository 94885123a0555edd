use Rattle.graph_theory.proofs.Common.{◌≡◌, ◌+◌, length}
use Rattle.alt_forest.specs.Chains.{apart}
use Rattle.alt_forest.proofs.slack.apart.Given as goal

abbrev pub invariant-loop-node : goal.invariant-loop-node
invariant-loop-node l = record {
  level : length l.node-iterator ≡ length l.other;
  size_limit : l.nodes + length l.node-iterator ≡ length l.fn.left;
  same : l.nodes + apart l.node-iterator l.other ≡ apart l.fn.left l.fn.right;
}
