use Rattle.graph_theory.proofs.Common.{arith, length_permutation}
use Rattle.search_tables.proofs.tree_nodes.TreeNodes.clear.Goals as goal

pub loop-node-smaller : goal.loop-node-smaller
loop-node-smaller c = omega (arith, length_permutation _ _ c.remove_node.ensures.nodes)
