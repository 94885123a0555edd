use Rattle.graph_theory.proofs.Common.{◌≡◌, length}
use Rattle.search_tables.proofs.tree_nodes.TreeNodes.clear.Given as goal

abbrev pub invariant-loop-node : goal.invariant-loop-node
invariant-loop-node l = length l.self.tree_ids ≡ length l.fn.self.tree_ids

abbrev pub decreases-loop-node : goal.decreases-loop-node
decreases-loop-node l = length l.self.nodes
