use Rattle.graph_theory.proofs.Common.{◌∙◌, ap}
use Rattle.blossom_arena.specs.Family.{outermost}
use Rattle.alt_forest.proofs.Places.{u_outer, v_outer}
use Rattle.alt_forest.proofs.path.other_node.Goals as goal

pub returns-then-near-node-clause-outermost : goal.returns-then-near-node-clause-outermost
returns-then-near-node-clause-outermost c = v_outer c.args.search.now c.args.e c.number-far.result c.requires.shape c.requires.edge
    (c.number-far.ensures ∙ c.outermost-2.ensures.node ∙ ap (outermost c.args.search.now.arena.blossoms) c.edge-u.ensures.to)

pub returns-clause-outermost : goal.returns-clause-outermost
returns-clause-outermost c = u_outer c.args.search.now c.args.e c.number-near.result c.requires.shape c.requires.edge
    (c.number-near.ensures ∙ c.outermost.ensures.node ∙ ap (outermost c.args.search.now.arena.blossoms) c.edge-u.ensures.from)
