use Rattle.alt_forest.proofs.Common.{◌∙◌, ℕ, sym, ap, subst, Some, Option, State, state_of, edge_in, put, root_of, nested_of, outer_not_out, ways_lead, root_self}
use Rattle.alt_forest.proofs.Common.{◌<◌, mate_place}
use Rattle.alt_forest.specs.declared.search.Search.{Search}
use Rattle.augment.proofs.Climbing.{shape_mated, can_climb}
use Rattle.augment.specs.Turns.{IsClimbed}
use Rattle.augment.proofs.Uprooted.{turns, turned}
use Rattle.augment.proofs.turning.turn.Goals as goal

pub climb-requires-clause-possible : goal.climb-requires-clause-possible
climb-requires-clause-possible c =
    let s : State = state_of c.args.search.now in
    let m : ℕ → Option ℕ = edge_in c.uproot.new.search.mates.items in
    can_climb c.args.search.now _ c.requires.sound c.args.e c.args.near c.args.far (put m c.args.far (Some c.args.e))
    (ap (λ (u : Search). state_of (record u { mates = c.set_edge.new.edges })) c.uproot.ensures.frame)
    (λ nested depth st. rw c.set_edge.ensures.edges (turns s depth nested st c.args.e c.args.near c.args.far c.requires.ends m c.uproot.ensures.uprooted))

pub returns-clause-turned : goal.returns-clause-turned
returns-clause-turned c =
    let s : State = state_of c.args.search.now in let sound = c.requires.sound in
    let ends = c.requires.ends in let nested = nested_of c.args.search.now sound.shape in
    let m : ℕ → Option ℕ = edge_in c.uproot.new.search.mates.items in
    let n : ℕ → Option ℕ = edge_in c.climb.new.search.mates.items in
    let done = c.climb.ensures.climbed (can_climb c.args.search.now _ sound c.args.e c.args.near c.args.far (put m c.args.far (Some c.args.e))
    (ap (λ (u : Search). state_of (record u { mates = c.set_edge.new.edges })) c.uproot.ensures.frame)
    (λ nested depth st. rw c.set_edge.ensures.edges (turns s depth nested st c.args.e c.args.near c.args.far ends m c.uproot.ensures.uprooted))) in
    let root = (ways_lead s sound.depth c.args.far nested sound.state ends.far_is (λ q. outer_not_out (sym ends.far_outer ∙ q))).root in
    turned s sound.depth nested sound.state c.args.e c.args.near c.args.far ends m c.uproot.ensures.uprooted n
    (subst (λ (b : ℕ → Option ℕ). IsClimbed s (put m c.args.far (Some c.args.e)) b n c.args.e c.args.near) c.set_edge.ensures.edges done)
    (root_self s sound.depth nested sound.state (root_of s c.args.far) root)

pub set_edge-requires : goal.set_edge-requires
set_edge-requires c =
    record { place = subst (λ n. c.args.far < n) (sym c.uproot.ensures.len) (mate_place c.args.search.now c.args.far c.requires.sound.shape c.requires.ends.far_is) }

pub climb-requires-clause-shape : goal.climb-requires-clause-shape
climb-requires-clause-shape c =
    let now = ap (λ (x : Search). let y : Search = record x { mates = c.set_edge.new.edges } in y) c.uproot.ensures.frame in
    shape_mated c.args.search.now _ c.requires.sound.shape now (c.set_edge.ensures.len ∙ c.uproot.ensures.len)

pub returns-clause-frame : goal.returns-clause-frame
returns-clause-frame c = c.climb.ensures.frame ∙ ap (λ (x : Search). let y : Search = record x { mates = c.climb.new.search.mates } in y) c.uproot.ensures.frame
