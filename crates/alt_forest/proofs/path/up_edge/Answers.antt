use Rattle.graph_theory.proofs.Common.{arith}
use Rattle.alt_forest.proofs.Places.{mate_place, parent_place}
use Rattle.alt_forest.proofs.path.up_edge.Goals as goal

pub edge_for-requires : goal.edge_for-requires
edge_for-requires c = omega (arith, mate_place c.args.search.now c.args.node c.requires.shape c.requires.outermost, c.deref-in-Outer.ensures.len)

pub edge_for-requires-in-Inner : goal.edge_for-requires-in-Inner
edge_for-requires-in-Inner c = omega (arith, parent_place c.args.search.now c.args.node c.requires.shape c.requires.outermost, c.deref-in-Inner.ensures.len)
