use Rattle.alt_forest.proofs.Common.{◌≡◌, ap, subst, arith, state_of, nested_of}
use Rattle.alt_forest.specs.declared.search.Search.{Search}
use Rattle.dual_change.specs.Changes.{IsPossible}
use Rattle.mwpm_engine.specs.Passes.{steps_to}
use Rattle.mwpm_engine.proofs.BoundedEvents.{arena_duals, grows_same, pass_of, same_pass}
use Rattle.mwpm_engine.proofs.BoundedSteps.{shrunk_duals, expanded_duals}
use Rattle.mwpm_engine.proofs.phases.take_in.Goals as goal

pub returns-in-Grow : goal.returns-in-Grow
returns-in-Grow g c =
    let s : Search = c.args.search.now in let t : Search = c.grow.new.search in let e = c.grow.ensures in
    let r = e.frame in let same = same_pass s t (ap pass_of c.grow.ensures.frame) in
    let by : steps_to c.args.event ≡ 2 = ap steps_to c.in-Grow.is in
    let f = grows_same s t c.requires.growing.forest e.sound e.listed e.all_rooted e.trees (arena_duals s t (ap (λ (x : Search). x.arena) r) same) same
    (ap (λ (x : Search). x.clock) r) in
    record {
      takes = record { growing = record { forest = f; event_times = e.event_times }; exposed = e.exposed; less = e.falls; paid = omega (arith, by, e.inspections, e.count, e.falls) };
      pass = same;
    }

pub returns-in-Shrink : goal.returns-in-Shrink
returns-in-Shrink g c =
    let s : Search = c.args.search.now in let t : Search = c.shrink.new.search in let e = c.shrink.ensures in
    let same = same_pass s t (ap pass_of c.shrink.ensures.frame) in
    let by : steps_to c.args.event ≡ 2 = ap steps_to c.in-Shrink.is in
    let f = grows_same s t c.requires.growing.forest e.sound e.listed e.all_rooted e.trees
    (shrunk_duals (state_of s) (state_of t) c.shrink.result (nested_of t e.sound.shape) e.shrunk) same (ap (λ (x : Search). x.clock) e.frame) in
    record {
      takes = record { growing = record { forest = f; event_times = e.event_times }; exposed = e.exposed; less = e.falls; paid = omega (arith, by, e.inspections, e.count, e.falls) };
      pass = same;
    }

pub returns-in-Expand : goal.returns-in-Expand
returns-in-Expand g c =
    let s : Search = c.args.search.now in let t : Search = c.expand.new.search in let e = c.expand.ensures in
    let same = same_pass s t (ap pass_of c.expand.ensures.frame) in
    let by : steps_to c.args.event ≡ 1 = ap steps_to c.in-Expand.is in
    let f = grows_same s t c.requires.growing.forest e.sound e.listed e.all_rooted e.trees (expanded_duals (state_of s) (state_of t) c.in-Expand.b
    (subst (IsPossible (state_of s)) c.in-Expand.is c.requires.possible) e.expanded) same (ap (λ (x : Search). x.clock) e.frame) in
    record {
      takes = record { growing = record { forest = f; event_times = e.event_times }; exposed = e.exposed; less = e.falls; paid = omega (arith, by, e.inspections, e.count, e.falls) };
      pass = same;
    }

pub shrink-requires-clause-possible : goal.shrink-requires-clause-possible
shrink-requires-clause-possible g c = subst (IsPossible (state_of c.args.search.now)) c.in-Shrink.is c.requires.possible
