use Rattle.alt_forest.proofs.Common.{◌∙◌, ap, is_outermost, outermost_has, nested_of}
use Rattle.state_check.proofs.parity.dual_sum_has.Goals as goal

pub mate-requires-clause-outermost : goal.mate-requires-clause-outermost
mate-requires-clause-outermost c =
    let s = c.args.search.now in
    ap (is_outermost s.graph.vertices s.arena.blossoms) c.outermost.ensures.node ∙ (outermost_has s.graph.vertices s.arena.blossoms c.args.v
    (nested_of s c.requires.shape) c.requires.vertex).0
