use Rattle.alt_forest.proofs.Common.{refl, arith, state_of}
use Rattle.alt_forest.specs.declared.search.Search.{Search}
use Rattle.search_keys.specs.declared.bounds.EventBounds.{EventBounds}
use Rattle.search_keys.proofs.Stale.{stale_less}
use Rattle.dual_change.proofs.Hints.{stale_degree, stale_exact, still_fresh}
use Rattle.dual_change.proofs.Turns.{idle_same}
use Rattle.dual_change.proofs.find_by_keys.renew.Goals as goal

pub returns-clause-left : goal.returns-clause-left
returns-clause-left g c =
    let s : Search = c.args.search.now in let b : EventBounds = c.args.bounds.now in
    let d : EventBounds = c.look_anew.new.self in let v = c.args.v in
    let fewer = stale_less s s b d v refl (still_fresh s b d v c.look_anew.ensures.current c.look_anew.ensures.keys c.look_anew.ensures.hints) c.requires.vertex c.requires.stale
    c.look_anew.ensures.current in
    let same = idle_same (state_of s) b.moments d.moments v c.requires.vertex c.requires.lies c.look_anew.ensures.moments in
    omega (arith, fewer, same, stale_degree s b v c.requires.vertex_keys.hints c.requires.vertex c.requires.stale)

pub returns-clause-count : goal.returns-clause-count
returns-clause-count g c =
    let s : Search = c.args.search.now in let b : EventBounds = c.args.bounds.now in let d : EventBounds = c.look_anew.new.self in
    omega (
      arith,
      stale_exact s b d c.args.v c.requires.vertex c.requires.stale c.look_anew.ensures.current c.look_anew.ensures.keys c.look_anew.ensures.hints,
      c.look_anew.ensures.inspections,
    )
