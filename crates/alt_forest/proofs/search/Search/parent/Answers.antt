use Rattle.graph_theory.proofs.Common.{arith}
use Rattle.alt_forest.proofs.Places.{parent_place}
use Rattle.alt_forest.proofs.search.Search.parent.Goals as goal

pub edge_for-requires : goal.edge_for-requires
edge_for-requires c = omega (arith, parent_place c.args.self.now c.args.node c.requires.shape c.requires.outermost, c.number.ensures, c.deref.ensures.len)
