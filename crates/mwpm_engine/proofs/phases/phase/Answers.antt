use Rattle.alt_forest.proofs.Common.{◌∙◌, ◌+◌, ◌<◌, ◌≤◌, Option, length, sym, ap, subst, arith, Multigraph, state_of, exposed_count, measure}
use Rattle.alt_forest.specs.declared.search.Search.{Search}
use Rattle.dual_change.specs.declared.event.Event.{Event}
use Rattle.dual_change.specs.Changes.{IsPossible}
use Rattle.mwpm_engine.specs.Passes.{IsReady, IsGrowing, IsReached, TakesOrPuts, account, phase_steps, steps_reached}
use Rattle.mwpm_engine.specs.Solutions.{size_of_graph}
use Rattle.mwpm_engine.proofs.Reached.{stuck_forest}
use Rattle.mwpm_engine.proofs.BoundedEvents.{pass_of, same_pass, still_bounded, same_through}
use Rattle.mwpm_engine.proofs.Planted.{planted_on, planted_pass, exposed_planted}
use Rattle.mwpm_engine.proofs.StepCounts.{planted_paid, steps_few}
use Rattle.mwpm_engine.proofs.phases.phase.Goals as goal

pub loop-event-init : goal.loop-event-init
loop-event-init g c =
    let s : Search = c.args.search.now in let t : Search = c.plant_all.new.search in let q = c.requires in
    let ready : IsReady s = record { sound = q.sound; event_times = q.event_times; listed = q.listed; labels = q.labels; bounded = q.bounded } in
    let e = c.plant_all.ensures in let r = e.frame in
    record {
      growing = record { forest = planted_on s t r ready e.sound e.listed e.all_rooted (exposed_planted s t q.exposed.0 r e.sound e.all_rooted q.exposed.1); event_times = e.event_times };
      same = planted_pass s t r;
      exposed = e.exposed;
      steps = subst (λ (k : Multigraph). account t c.plant_all.new.steps + 3 ≤ c.args.steps.now + phase_steps (size_of_graph k) (length s.arena.blossoms)) (sym q.same_graph)
          (planted_paid s t c.args.steps.now c.plant_all.new.steps q.exposed.0 ready q.exposed.1.0 (ap (λ (x : Search). x.arena) r) (ap (λ (x : Search). x.graph) r) e.inspections e.count);
    }

pub loop-event-preserved : goal.loop-event-preserved
loop-event-preserved g c =
    let i = c.loop-event.invariant in let r = c.reach.ensures in
    let e = subst (TakesOrPuts c.reach.new.search c.reach.new.steps c.take_in.new.search c.take_in.new.steps c.in-Some.event) c.in_default-take_in.is c.take_in.ensures.takes in
    let left = r.keeps.left in
    let less : measure (state_of c.take_in.new.search) < measure (state_of c.loop-event.search) = omega (arith, e.less, left) in
    let reached = same_through c.args.search.now c.loop-event.search c.reach.new.search i.same r.pass in
    let same = same_through c.args.search.now c.reach.new.search c.take_in.new.search reached c.take_in.ensures.pass in
    let exposed = e.exposed ∙ r.keeps.exposed ∙ i.exposed in
    record { growing = e.growing; same = same; exposed = exposed; steps = omega (arith, c.in-Some.ensures.paid, i.steps, e.paid) }

pub returns : goal.returns
returns g c =
    let t : Search = c.reach.new.search in let r = c.reach.ensures in let f = r.growing.forest in
    let i = c.loop-event.invariant in
    let paid = subst (λ (o : Option Event). account t c.reach.new.steps ≤ account c.loop-event.search c.loop-event.steps + steps_reached o) c.in_default.is r.paid in
    let ends = stuck_forest t f (subst (IsReached t) c.in_default.is r.reached) in
    let pass = same_through c.args.search.now c.loop-event.search t i.same r.pass in let b = f.bounded in
    record { ends = ends; sound = f.sound; event_times = r.growing.event_times; listed = f.listed; bounded = b; pass = pass; steps = omega (arith, paid, i.steps) }

pub flip-requires : goal.flip-requires
flip-requires g c =
    let put = c.in-Some-take_in.ensures.takes in let still = sym put.search in
    let f = (subst IsGrowing still c.reach.ensures.growing).forest in
    let same = c.requires.same_graph ∙ sym (c.take_in.ensures.pass.graph ∙ c.reach.ensures.pass.graph ∙ c.loop-event.invariant.same.graph) in
    let can = subst (IsPossible (state_of c.take_in.new.search)) put.augment (subst (λ (x : Search). IsPossible (state_of x) c.in-Some.event) still c.in-Some.ensures.reached) in
    record { sound = f.sound; listed = f.listed; same_graph = same; possible = can }

pub returns-in-Some-take_in : goal.returns-in-Some-take_in
returns-in-Some-take_in g c =
    let s : Search = c.args.search.now in let u : Search = c.take_in.new.search in
    let t : Search = c.flip.new.search in let i = c.loop-event.invariant in let f = c.flip.ensures in
    let put = c.in-Some-take_in.ensures.takes in let r = c.reach.ensures in
    let same = same_pass u t (ap pass_of f.frame) in
    let reached = same_through s c.loop-event.search c.reach.new.search i.same r.pass in
    let pass = same_through s u t (same_through s c.reach.new.search u reached c.take_in.ensures.pass) same in
    let b = still_bounded u t (ap (λ (x : Search). x.arena) f.frame) same (subst IsGrowing (sym put.search) r.growing).forest.bounded in
    let fewer = f.fewer ∙ ap (λ (x : Search). exposed_count (state_of x)) put.search ∙ r.keeps.exposed ∙ i.exposed in
    let paid = c.in-Some.ensures.paid in let k = steps_few c.in-Some.event in let l = f.labels in
    record { ends = (l, fewer); sound = f.sound; event_times = f.event_times; listed = f.listed; bounded = b; pass = pass; steps = omega (arith, paid, f.step, put.steps, i.steps, k) }
