use Rattle.alt_forest.proofs.Common.{ap, arith, state_of}
use Rattle.alt_forest.specs.declared.search.Search.{Search}
use Rattle.search_keys.specs.declared.bounds.EventBounds.{EventBounds}
use Rattle.search_keys.specs.Looks.{stale_ends}
use Rattle.dual_change.proofs.Turns.{idle_falls, moment_place}
use Rattle.dual_change.proofs.find_by_keys.drop_moment.Goals as goal

pub drop_idle-requires-clause-high : goal.drop_idle-requires-clause-high
drop_idle-requires-clause-high c =
    let s : Search = c.args.search.now in
    let place = moment_place s c.args.bounds.now c.args.node c.requires.has.0 c.requires.vertex_keys.places c.requires.has.1 in
    omega (arith, place.1, c.requires.vertex_keys.places.nodes)

pub returns-clause-stale : goal.returns-clause-stale
returns-clause-stale c =
    let s : Search = c.args.search.now in
    ap (stale_ends s) c.drop_idle.ensures.frame

pub returns-clause-left : goal.returns-clause-left
returns-clause-left c =
    let s : Search = c.args.search.now in let b : EventBounds = c.args.bounds.now in
    let m = c.requires.has.0 in
    let fewer = idle_falls (state_of s) b.moments c.drop_idle.new.self.moments c.args.node m (moment_place s b c.args.node m c.requires.vertex_keys.places c.requires.has.1) c.requires.idle
    c.requires.has.1 c.drop_idle.ensures.none c.drop_idle.ensures.others in
    omega (arith, fewer, returns-clause-stale c)
