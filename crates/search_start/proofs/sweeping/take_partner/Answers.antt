use Rattle.alt_forest.proofs.Common.{edge_of, IsExposed, IsTight, state_of}
use Rattle.search_start.proofs.Taken.{partner_falls, taker_rises, taken_pairs}
use Rattle.search_start.proofs.sweeping.take_partner.Goals as goal

pub move_dual-requires-clause-possible : goal.move_dual-requires-clause-possible
move_dual-requires-clause-possible c =
    let f = c.free.ensures in
    partner_falls c.args.search.now c.free.new.search c.args.v c.args.lead.now c.args.fall f.frame f.sound f.started
    (c.requires.weights, c.requires.vertex, c.requires.lead, c.requires.fall) f.exposed

pub move_dual-requires-2-clause-possible : goal.move_dual-requires-2-clause-possible
move_dual-requires-2-clause-possible c =
    let f = c.free.ensures in let e = c.move_dual.ensures in
    taker_rises c.args.search.now c.free.new.search c.args.v c.args.lead.now c.args.fall f.frame f.sound f.started
    (c.requires.weights, c.requires.vertex, c.requires.lead, c.requires.fall) c.move_dual.new.search e.frame e.duals (f.others c.args.v c.requires.exposed) e.started

-- the edge is tight now, and joins two exposed vertices
ready : (c : goal.After-pair-arg-2-1)
    → IsTight (state_of c.move_dual-2.new.search) c.args.lead.now.least.edge × IsExposed (state_of c.move_dual-2.new.search)
    (edge_of c.move_dual-2.new.search.graph c.args.lead.now.least.edge).u
    × IsExposed (state_of c.move_dual-2.new.search) (edge_of c.move_dual-2.new.search.graph c.args.lead.now.least.edge).v
ready c =
    let f = c.free.ensures in let e = c.move_dual.ensures in
    taken_pairs c.args.search.now c.free.new.search c.args.v c.args.lead.now c.args.fall f.frame f.sound f.started
    (c.requires.weights, c.requires.vertex, c.requires.lead, c.requires.fall) c.move_dual.new.search e.frame e.duals (f.others c.args.v c.requires.exposed)
    c.move_dual-2.new.search c.move_dual-2.ensures.frame c.move_dual-2.ensures.duals f.exposed

pub pair-requires-clause-tight : goal.pair-requires-clause-tight
pair-requires-clause-tight c = (ready c).0

pub pair-requires-clause-u : goal.pair-requires-clause-u
pair-requires-clause-u c = (ready c).1

pub pair-requires-clause-v : goal.pair-requires-clause-v
pair-requires-clause-v c = (ready c).2
