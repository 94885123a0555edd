use Rattle.alt_forest.proofs.Common.{◌≡◌, ◌∙◌, None, sym, ap, subst, rules, to_z, of_z, arith, w128, State, state_of, exposed_count, measure, entry_count, looks_left}
use Rattle.alt_forest.specs.declared.search.Search.{Search}
use Rattle.dual_change.specs.Changes.{IsPossible}
use Rattle.mwpm_engine.specs.Passes.{IsReached, KeepsCounts, steps_reached}
use Rattle.mwpm_engine.proofs.BoundedEvents.{pass_of, same_pass}
use Rattle.mwpm_engine.proofs.Reached.{IsFound, found, forest_found, looks_none, looks_reach, stuck_none, grows_on, keeps_applied, some_tree}
use Rattle.mwpm_engine.proofs.phases.reach.Given.{Over}
use Rattle.mwpm_engine.proofs.phases.reach.Goals as goal

-- what comes next, with the change as it is told
reached : (g : Over) (c : goal.After-apply-arg-2-1 g) → IsFound c.find-next.new.search c.in_ok-event.event (to_z w128 (of_z w128 c.in_ok-event.d))
reached g c =
    let e = c.find-next.ensures in
    let back : to_z w128 (of_z w128 c.in_ok-event.d) ≡ c.in_ok-event.d = search rules in
    found c.find-next.new.search c.find-next.result c.in_ok-event.event c.in_ok-event.d _ back e.found e.within (sym c.event_of.ensures ∙ c.in_ok-event.was)
    (forest_found c.args.search.now c.find-next.new.search e.frame e.sound e.listed c.requires.growing.forest)

pub apply-requires : goal.apply-requires
apply-requires g c =
    let e = c.find-next.ensures in let f = reached g c in
    let tree = some_tree c.find-next.new.search (forest_found c.args.search.now c.find-next.new.search e.frame e.sound e.listed c.requires.growing.forest) in
    let w = f.within in
    record {
      sound = e.sound;
      event_times = e.event_times;
      listed = e.listed;
      all_rooted = e.all_rooted;
      tree = tree;
      low = w.low;
      within = w;
      in_range = f.left.in_range;
      clock = f.left.clock_fits;
    }

pub returns-in_err-event : goal.returns-in_err-event
returns-in_err-event g c =
    let e = c.find-next.ensures in let u : Search = c.find-next.new.search in
    let out : c.from_residual.result ≡ None = search rules in
    let none = sym c.event_of.ensures ∙ c.in_err-event.was in let is = ap state_of e.frame in
    record {
      growing = record { forest = forest_found c.args.search.now u e.frame e.sound e.listed c.requires.growing.forest; event_times = e.event_times };
      reached = subst (IsReached u) (sym out) (stuck_none (state_of u) c.find-next.result e.found e.within none);
      keeps = record { exposed = ap exposed_count is; left = ap measure is; inspections = ap looks_left is };
      pass = same_pass c.args.search.now u (ap pass_of e.frame);
      paid = omega (arith, looks_none c.find-next.result none, ap steps_reached out, e.count, ap looks_left is, ap measure is);
    }

pub returns : goal.returns
returns g c =
    let u : Search = c.find-next.new.search in let t : Search = c.apply.new.search in
    let e = c.find-next.ensures in let a = c.apply.ensures in let found = reached g c.before in
    let forest = forest_found c.args.search.now u e.frame e.sound e.listed c.requires.growing.forest in
    let by = looks_reach c.find-next.result c.in_ok-event.event c.in_ok-event.d (sym c.event_of.ensures ∙ c.in_ok-event.was) in
    let queue : entry_count t.queue ≡ entry_count u.queue = ap (λ (x : Search). entry_count x.queue) a.frame in
    let keeps = subst (λ (x : State). KeepsCounts x (state_of t)) (ap state_of e.frame) (keeps_applied (state_of u) _ _ a.state) in
    let grown = grows_on u t _ forest a.sound a.listed a.all_rooted a.state (ap (λ (x : Search). x.start) a.frame) (ap (λ (x : Search). x.clock) a.frame) found.left in
    record {
      growing = record { forest = grown; event_times = a.event_times };
      reached = subst (λ (x : State). IsPossible x c.in_ok-event.event) (sym a.state) found.possible;
      keeps = keeps;
      pass = same_pass c.args.search.now t (ap pass_of a.frame ∙ ap pass_of e.frame);
      paid = omega (arith, by, queue, e.count, a.step, keeps.inspections, keeps.left);
    }
