use Rattle.alt_forest.proofs.Common.{arith, state_of}
use Rattle.alt_forest.specs.declared.search.Search.{Search}
use Rattle.search_keys.proofs.Counted.{outer_around}
use Rattle.search_keys.proofs.Rooted.{rooted_bounding, rooted_looks, rooted_stale, rooted_vertices}
use Rattle.search_keys.proofs.planting.plant.Goals as goal

pub enter_scanned-requires-clause-vertices : goal.enter_scanned-requires-clause-vertices
enter_scanned-requires-clause-vertices g c =
    let call = c.make_root.ensures in
    rooted_vertices c.args.search.now c.make_root.new.self c.args.v call.frame call.labels c.requires.sound c.requires.exposed c.requires.out call.scanned

pub enter_scanned-requires-clause-vertex_keys : goal.enter_scanned-requires-clause-vertex_keys
enter_scanned-requires-clause-vertex_keys g c =
    let call = c.make_root.ensures in
    rooted_bounding c.args.search.now c.make_root.new.self c.args.v call.frame call.labels c.requires.sound c.requires.exposed c.requires.out
    c.args.bounds.now c.requires.vertex_keys call.scanned

pub returns-clause-inspections : goal.returns-clause-inspections
returns-clause-inspections g c =
    let t : Search = c.make_root.new.self in let call = c.make_root.ensures in
    let left = rooted_looks c.args.search.now t c.args.v call.frame call.labels c.requires.sound c.requires.exposed c.requires.out call.scanned in
    omega (arith, c.enter_scanned.ensures.edge_ends, outer_around (state_of t) t.scanned.items, left)

pub returns-clause-stale : goal.returns-clause-stale
returns-clause-stale g c =
    let call = c.make_root.ensures in
    rooted_stale c.args.search.now c.make_root.new.self c.args.v call.frame call.labels c.requires.sound c.requires.exposed c.requires.out
    c.args.bounds.now c.enter_scanned.new.self c.requires.vertex_keys c.enter_scanned.ensures.known_keys
