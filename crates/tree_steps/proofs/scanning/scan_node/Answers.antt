use Rattle.alt_forest.proofs.Common.{arith, nested_of, members_fit}
use Rattle.tree_steps.proofs.scanning.scan_node.Goals as goal

pub scan-requires-clause-room : goal.scan-requires-clause-room
scan-requires-clause-room c =
    let f = c.args.search.now in let h = c.requires.sound.shape in
    omega (arith, c.clear.ensures.len, c.clear.ensures.capacity, h.room.scanned, members_fit f.graph.vertices f.arena.blossoms c.args.node (nested_of f h) c.requires.node)
