use Rattle.graph_theory.proofs.Common.{arith}
use Rattle.alt_forest.proofs.Places.{mate_place, parent_place}
use Rattle.alt_forest.proofs.search.Search.hop.Goals as goal

pub edge_for-requires : goal.edge_for-requires
edge_for-requires c = omega (arith, mate_place c.args.self.now c.args.node c.requires.shape c.requires.outermost, c.number.ensures, c.deref.ensures.len)

pub edge_for-requires-2 : goal.edge_for-requires-2
edge_for-requires-2 c = omega (arith, parent_place c.args.self.now c.other_node-inner.result c.requires.shape c.other_node-inner.ensures.outermost, c.deref-2.ensures.len)
