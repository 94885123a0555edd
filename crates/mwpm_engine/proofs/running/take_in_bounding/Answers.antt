use Rattle.alt_forest.proofs.Common.{ap, length, subst, state_of, blossoms_most, nested_of}
use Rattle.alt_forest.specs.declared.search.Search.{Search}
use Rattle.dual_change.specs.Changes.{IsPossible}
use Rattle.mwpm_engine.proofs.BoundedEvents.{arena_duals, grows_same, pass_of, same_pass}
use Rattle.mwpm_engine.proofs.BoundedSteps.{shrunk_duals, expanded_duals}
use Rattle.mwpm_engine.proofs.Joined.{took_in}
use Rattle.mwpm_engine.proofs.PassCounts.{saved_same, saved_shrunk, saved_expanded}
use Rattle.mwpm_engine.proofs.running.take_in_bounding.Goals as goal

pub returns-in-Grow : goal.returns-in-Grow
returns-in-Grow g c =
    let s : Search = c.args.search.now in let t : Search = c.grow_bounding.new.search in
    let e = c.grow_bounding.ensures in let r = e.frame in
    let same = same_pass s t (ap pass_of c.grow_bounding.ensures.frame) in
    let f = grows_same s t c.requires.running.forest e.sound e.listed e.all_rooted e.trees (arena_duals s t (ap (λ (x : Search). x.arena) r) same) same
    (ap (λ (x : Search). x.clock) r) in
    let takes = took_in s t c.args.bounds.now c.grow_bounding.new.bounds c.args.steps.now c.grow_bounding.new.steps c.args.event
    (record { forest = f; vertex_keys = e.vertex_keys }) same.graph e.exposed
    (saved_same s t c.args.bounds.now c.grow_bounding.new.bounds same.graph (ap (λ (x : Search). length x.arena.blossoms) r) e.blossoms e.stale) e.inspections e.falls in
    record { takes = takes; pass = same }

pub returns-in-Shrink : goal.returns-in-Shrink
returns-in-Shrink g c =
    let s : Search = c.args.search.now in let t : Search = c.shrink_bounding.new.search in
    let e = c.shrink_bounding.ensures in
    let same = same_pass s t (ap pass_of c.shrink_bounding.ensures.frame) in
    let f = grows_same s t c.requires.running.forest e.sound e.listed e.all_rooted e.trees
    (shrunk_duals (state_of s) (state_of t) c.shrink_bounding.result (nested_of t e.sound.shape) e.shrunk) same (ap (λ (x : Search). x.clock) e.frame) in
    let takes = took_in s t c.args.bounds.now c.shrink_bounding.new.bounds c.args.steps.now c.shrink_bounding.new.steps c.args.event
    (record { forest = f; vertex_keys = e.vertex_keys }) same.graph e.exposed
    (saved_shrunk s t c.args.bounds.now c.shrink_bounding.new.bounds same.graph e.one_more (blossoms_most t.graph.vertices t.arena.blossoms (nested_of t e.sound.shape)) e.blossoms
    e.stale) e.inspections e.falls in
    record { takes = takes; pass = same }

pub returns-in-Expand : goal.returns-in-Expand
returns-in-Expand g c =
    let s : Search = c.args.search.now in let t : Search = c.expand_bounding.new.search in
    let e = c.expand_bounding.ensures in
    let same = same_pass s t (ap pass_of c.expand_bounding.ensures.frame) in
    let f = grows_same s t c.requires.running.forest e.sound e.listed e.all_rooted e.trees (expanded_duals (state_of s) (state_of t) c.in-Expand.b
    (subst (IsPossible (state_of s)) c.in-Expand.is c.requires.possible) e.expanded) same (ap (λ (x : Search). x.clock) e.frame) in
    let takes = took_in s t c.args.bounds.now c.expand_bounding.new.bounds c.args.steps.now c.expand_bounding.new.steps c.args.event
    (record { forest = f; vertex_keys = e.vertex_keys }) same.graph e.exposed
    (saved_expanded s t c.args.bounds.now c.expand_bounding.new.bounds same.graph e.one_fewer e.blossoms e.stale) e.inspections e.falls in
    record { takes = takes; pass = same }

pub shrink_bounding-requires-clause-possible : goal.shrink_bounding-requires-clause-possible
shrink_bounding-requires-clause-possible g c = subst (IsPossible (state_of c.args.search.now)) c.in-Shrink.is c.requires.possible
