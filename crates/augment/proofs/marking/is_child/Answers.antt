use Rattle.graph_theory.proofs.Common.{◌∙◌, sym}
use Rattle.augment.proofs.Holders.{no_child}
use Rattle.augment.proofs.marking.is_child.Goals as goal

pub returns-then-not-is_node : goal.returns-then-not-is_node
returns-then-not-is_node c = sym (no_child c.args.arena.now.vertex_count c.args.arena.now.blossoms c.args.node c.is_node.ensures.is_family.nested
    (sym c.is_node.ensures.node ∙ c.if-not-is_node.true))
