use Rattle.alt_forest.proofs.Common.{◌≡◌, ◌∙◌, ◌+◌, ◌*◌, ◌≤◌, ap, subst, arith, Multigraph, exposed_count, state_of}
use Rattle.alt_forest.specs.declared.search.Search.{Search}
use Rattle.search_keys.specs.declared.bounds.EventBounds.{EventBounds}
use Rattle.mwpm_engine.specs.Solutions.{size_of_graph}
use Rattle.mwpm_engine.specs.Passes.{IsReached, augment_account, pass_account, stage_of, steps_reached, steps_to}
use Rattle.mwpm_engine.proofs.Reached.{stuck_forest}
use Rattle.mwpm_engine.proofs.BoundedEvents.{same_through}
use Rattle.mwpm_engine.proofs.BoundsBegun.{begins_bounding, cleared_places, none_stale}
use Rattle.mwpm_engine.proofs.Planted.{planted_on, planted_pass, planted_none_left}
use Rattle.mwpm_engine.proofs.StepCounts.{steps_few}
use Rattle.mwpm_engine.proofs.PassCounts.{pass_begun, pass_idle, pass_matched, steps_counted}
use Rattle.mwpm_engine.proofs.pass.pass.Goals as goal

pub plant_all_bounding-some-requires-clause-vertex_keys : goal.plant_all_bounding-some-requires-clause-vertex_keys
plant_all_bounding-some-requires-clause-vertex_keys g c =
    let s : Search = c.args.search.now in let b : EventBounds = c.clear.new.self in let e = c.clear.ensures in
    begins_bounding s b _ _ c.requires.well_formed c.requires.near (cleared_places s.graph c.args.bounds.now b e.moments e.hints e.keys c.requires.places) e.moments e.none

pub returns-then-not-some : goal.returns-then-not-some
returns-then-not-some g c =
    let s : Search = c.args.search.now in let t : Search = c.plant_all_bounding-some.new.search in
    let e = c.if-not-some.ensures in let stale = none_stale s c.clear.new.self c.clear.ensures.none in
    let ends = planted_none_left s t e.frame c.requires.well_formed e.sound e.all_rooted e.trees in
    let steps = pass_idle s t c.plant_all_bounding-some.new.bounds c.args.steps.now c.plant_all_bounding-some.new.steps c.requires.well_formed c.requires.blossoms
    (ap (λ (x : Search). x.arena.blossoms) e.frame) (ap (λ (x : Search). x.graph) e.frame) (omega (arith, stale, e.stale)) e.inspections (exposed_count (state_of s)) in
    record { ends = ends; sound = e.sound; places = e.vertex_keys.places; pass = planted_pass s t e.frame; steps = steps }

pub loop-event-init : goal.loop-event-init
loop-event-init g c =
    let s : Search = c.args.search.now in let t : Search = c.plant_all_bounding-some.new.search in
    let e = c.if-not-some.ensures in let stale = none_stale s c.clear.new.self c.clear.ensures.none in
    record {
      running = record { forest = planted_on s t e.frame c.requires.well_formed e.sound e.listed e.all_rooted e.trees; vertex_keys = e.vertex_keys };
      same = planted_pass s t e.frame;
      steps = pass_begun s t c.plant_all_bounding-some.new.bounds c.args.steps.now c.plant_all_bounding-some.new.steps c.requires.well_formed c.requires.blossoms
          (ap (λ (x : Search). x.arena.blossoms) e.frame) (ap (λ (x : Search). x.graph) e.frame) (omega (arith, stale, e.stale)) e.inspections e.exposed;
    }

pub loop-event-preserved : goal.loop-event-preserved
loop-event-preserved g c =
    let s : Search = c.args.search.now in let i = c.loop-event.invariant in
    let r = c.reach_bounding.ensures in let on = c.if-not-left.ensures.happens in
    let reached = same_through s c.loop-event.search c.reach_bounding.new.search i.same r.pass in
    let same = same_through s c.reach_bounding.new.search c.perform-left.new.search reached c.perform-left.ensures.pass in
    record { running = on.running; same = same; steps = omega (arith, i.steps, c.in-Some.ensures.paid, on.paid) }

pub returns-then-not-left : goal.returns-then-not-left
returns-then-not-left g c =
    let s : Search = c.args.search.now in let u : Search = c.reach_bounding.new.search in
    let last = c.if-not-left.ensures.happens in let i = c.loop-event.invariant in
    let r = c.reach_bounding.ensures in let same : u.graph ≡ s.graph = r.pass.graph ∙ i.same.graph in
    let reached = pass_account (stage_of u c.reach_bounding.new.bounds c.reach_bounding.new.steps) in
    let pass = same_through s u c.perform-left.new.search (same_through s c.loop-event.search u i.same r.pass) c.perform-left.ensures.pass in
    let steps = pass_matched (size_of_graph s.graph) (exposed_count (state_of s)) c.args.steps.now _ reached c.perform-left.new.steps (steps_to c.in-Some.event) i.steps
    c.in-Some.ensures.paid (steps_few c.in-Some.event) (subst (λ (k : Multigraph). 4 * c.perform-left.new.steps + 2 * augment_account (size_of_graph k) ≤ reached + 4) same last.paid)
    (subst (λ (k : Multigraph). 2 ≤ k.vertices) same last.vertices) in
    record { ends = last.complete; sound = last.complete.sound; places = last.places; pass = pass; steps = steps }

pub returns : goal.returns
returns g c =
    let t : Search = c.reach_bounding.new.search in let r = c.reach_bounding.ensures in
    let p = stage_of t c.reach_bounding.new.bounds c.reach_bounding.new.steps in
    let paid = subst (λ o. pass_account p ≤ pass_account (stage_of c.loop-event.search c.loop-event.bounds c.loop-event.steps) + 4 * steps_reached o) c.in_default.is r.paid in
    let ends = stuck_forest t r.running.forest (subst (IsReached t) c.in_default.is r.reached) in
    let pass = same_through c.args.search.now c.loop-event.search t c.loop-event.invariant.same r.pass in
    let f = r.running in
    record { ends = ends; sound = f.forest.sound; places = f.vertex_keys.places; pass = pass; steps = omega (arith, paid, steps_counted p, c.loop-event.invariant.steps) }
