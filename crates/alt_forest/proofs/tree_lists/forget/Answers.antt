use Rattle.graph_theory.proofs.Common.{sym, subst, arith}
use Rattle.alt_forest.specs.TreeNodes.{AreListed}
use Rattle.alt_forest.proofs.Listed.{listed_less}
use Rattle.alt_forest.proofs.tree_lists.forget.Goals as goal

pub returns-clause-listed : goal.returns-clause-listed
returns-clause-listed c = λ n h.
    subst (AreListed n c.remove_node.new.self.nodes) (sym c.remove_node.ensures.tree_ids)
    (listed_less n c.args.tree_nodes.now.nodes c.remove_node.new.self.nodes c.args.tree_nodes.now.tree_ids c.args.node h c.remove_node.ensures.nodes (omega (arith, c.requires)))
