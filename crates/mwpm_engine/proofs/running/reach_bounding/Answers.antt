use Rattle.alt_forest.proofs.Common.{◌≡◌, ◌∙◌, None, refl, sym, ap, subst, rules, to_z, of_z, arith, w128, State, state_of}
use Rattle.alt_forest.specs.declared.search.Search.{Search}
use Rattle.dual_change.specs.Changes.{IsPossible}
use Rattle.mwpm_engine.specs.Passes.{IsReached, shrinks_left}
use Rattle.mwpm_engine.proofs.BoundedEvents.{pass_of, same_pass}
use Rattle.mwpm_engine.proofs.Reached.{IsFound, found, looks_none, looks_reach, stuck_none, grows_on, keeps_applied}
use Rattle.mwpm_engine.proofs.PassCounts.{reached_kept}
use Rattle.mwpm_engine.proofs.running.reach_bounding.Given.{Over}
use Rattle.mwpm_engine.proofs.running.reach_bounding.Goals as goal

-- what comes next, with the change as it is told
reached : (g : Over) (c : goal.After-apply_bounding-arg-2-1 g) → IsFound c.args.search.now c.in_ok-event.event (to_z w128 (of_z w128 c.in_ok-event.d))
reached g c =
    let e = c.find_bounding-next.ensures in
    let back : to_z w128 (of_z w128 c.in_ok-event.d) ≡ c.in_ok-event.d = search rules in
    found c.args.search.now c.find_bounding-next.result c.in_ok-event.event c.in_ok-event.d _ back e.found e.within (sym c.event_of.ensures ∙ c.in_ok-event.was) c.requires.running.forest

pub apply_bounding-requires : goal.apply_bounding-requires
apply_bounding-requires g c =
    let q = c.requires.running.forest in let b = c.find_bounding-next.ensures.vertex_keys in
    let f = reached g c in let w = f.within in
    record { sound = q.sound; vertex_keys = b; listed = q.listed; all_rooted = q.all_rooted; low = w.low; within = w; in_range = f.left.in_range; clock = f.left.clock_fits }

pub returns-in_err-event-clause-reached : goal.returns-in_err-event-clause-reached
returns-in_err-event-clause-reached g c =
    let s : Search = c.args.search.now in let out : c.from_residual.result ≡ None = search rules in
    let e = c.find_bounding-next.ensures in
    subst (IsReached s) (sym out) (stuck_none (state_of s) c.find_bounding-next.result e.found e.within (sym c.event_of.ensures ∙ c.in_err-event.was))

pub returns : goal.returns
returns g c =
    let s : Search = c.args.search.now in let t : Search = c.apply_bounding.new.search in
    let a = c.apply_bounding.ensures in let found = reached g c.before in
    let by = looks_reach c.find_bounding-next.result c.in_ok-event.event c.in_ok-event.d (sym c.event_of.ensures ∙ c.in_ok-event.was) in
    let keeps = keeps_applied (state_of s) (state_of t) _ a.state in let f = c.requires.running.forest in
    let grown = grows_on s t _ f a.sound a.listed a.all_rooted a.state (ap (λ (x : Search). x.start) a.frame) (ap (λ (x : Search). x.clock) a.frame) found.left in
    record {
      running = record { forest = grown; vertex_keys = a.vertex_keys };
      reached = subst (λ (x : State). IsPossible x c.in_ok-event.event) (sym a.state) found.possible;
      keeps = keeps;
      pass = same_pass s t (ap pass_of a.frame);
      paid = reached_kept s t c.args.bounds.now c.find_bounding-next.new.bounds (ap (λ (x : Search). x.graph) a.frame) keeps.exposed c.args.steps.now c.apply_bounding.new.steps _ keeps
          (ap shrinks_left a.state) (omega (arith, by, a.stale, a.step, c.find_bounding-next.ensures.count));
    }

pub returns-in_err-event-clause-paid : goal.returns-in_err-event-clause-paid
returns-in_err-event-clause-paid g c =
    let s : Search = c.args.search.now in
    let none = looks_none c.find_bounding-next.result (sym c.event_of.ensures ∙ c.in_err-event.was) in
    reached_kept s s c.args.bounds.now c.find_bounding-next.new.bounds refl refl c.args.steps.now c.find_bounding-next.new.steps _
    (record { exposed = refl; left = refl; inspections = refl })
    refl (omega (arith, none, c.find_bounding-next.ensures.count))
