use Rattle.alt_forest.proofs.Common.{◌≡◌, ◌∙◌, ℕ, refl, sym, ap, subst, Some, None, Option, not, is_some, State, state_of, edge_in, put, no_entry}
use Rattle.alt_forest.proofs.Common.{nested_of, mate_place, ◌<◌}
use Rattle.alt_forest.specs.declared.search.Search.{Search}
use Rattle.alt_forest.specs.declared.grandparent.GrandparentLink.{GrandparentLink}
use Rattle.augment.proofs.Climbing.{shape_mated, inner_place, can_climb}
use Rattle.augment.specs.Turns.{IsClimbed}
use Rattle.augment.proofs.Uprooted.{uprooted_root, some_hop, read_hop, uproots, uprooted}
use Rattle.augment.proofs.turning.uproot.Goals as goal

pub returns-then-is_none-clause-uprooted : goal.returns-then-is_none-clause-uprooted
returns-then-is_none-clause-uprooted c =
    let s : State = state_of c.args.search.now in let sound = c.requires.sound in
    let none = no_entry _ (ap not (sym (ap (λ o. is_some o) c.mate.ensures.mate) ∙ c.is_none.ensures ∙ ap not c.if-is_none.true)) in
    uprooted_root s sound.depth (nested_of c.args.search.now sound.shape) sound.state c.args.far (record { outermost = c.requires.is; outer = c.requires.outer; exposed = none })

pub hop-hop-requires-clause-hop : goal.hop-hop-requires-clause-hop
hop-hop-requires-clause-hop c =
    let s : State = state_of c.args.search.now in let sound = c.requires.sound in
    let has = sym (ap (λ o. is_some o) c.mate.ensures.mate) ∙ c.is_none.ensures ∙ ap not c.if-is_none.false in
    some_hop s sound.depth (nested_of c.args.search.now sound.shape) sound.state c.args.far c.requires.is c.requires.outer has

pub climb-requires-clause-possible : goal.climb-requires-clause-possible
climb-requires-clause-possible c =
    let s : State = state_of c.args.search.now in
    let has = sym (ap (λ o. is_some o) c.mate.ensures.mate) ∙ c.is_none.ensures ∙ ap not c.if-is_none.false in
    let k : GrandparentLink = c.hop-hop.result in
    can_climb c.args.search.now _ c.requires.sound k.parent k.outer k.inner (put s.mate c.args.far None) refl
    (λ nested depth st. rw (c.set_edge-2.ensures.edges ∙ ap (λ n. put n k.inner (Some k.parent)) c.set_edge.ensures.edges)
    (uproots s depth nested st c.args.far k (read_hop s depth nested st c.args.far c.requires.is c.requires.outer has k c.hop-hop.ensures.hop)))

pub returns-clause-uprooted : goal.returns-clause-uprooted
returns-clause-uprooted c =
    let s : State = state_of c.args.search.now in let sound = c.requires.sound in
    let nested = nested_of c.args.search.now sound.shape in
    let has = sym (ap (λ o. is_some o) c.mate.ensures.mate) ∙ c.is_none.ensures ∙ ap not c.if-is_none.false in
    let k : GrandparentLink = c.hop-hop.result in
    let hop = read_hop s sound.depth nested sound.state c.args.far c.requires.is c.requires.outer has k c.hop-hop.ensures.hop in
    let now : edge_in c.set_edge-2.new.edges.items ≡ put (put s.mate c.args.far None) k.inner (Some k.parent) = c.set_edge-2.ensures.edges
    ∙ ap (λ n. put n k.inner (Some k.parent)) c.set_edge.ensures.edges in
    let m : ℕ → Option ℕ = edge_in c.climb.new.search.mates.items in
    let done = c.climb.ensures.climbed (can_climb c.args.search.now _ sound k.parent k.outer k.inner (put s.mate c.args.far None) refl (λ nested depth st. rw now
    (uproots s depth nested st c.args.far k (read_hop s depth nested st c.args.far c.requires.is c.requires.outer has k c.hop-hop.ensures.hop)))) in
    uprooted s sound.depth nested sound.state c.args.far k hop m (subst (λ (n : ℕ → Option ℕ). IsClimbed s (put s.mate c.args.far None) n m k.parent k.outer) now done)

pub set_edge-requires : goal.set_edge-requires
set_edge-requires c = record { place = mate_place c.args.search.now c.args.far c.requires.sound.shape c.requires.is }

pub climb-requires-clause-shape : goal.climb-requires-clause-shape
climb-requires-clause-shape c = shape_mated c.args.search.now _ c.requires.sound.shape refl (c.set_edge-2.ensures.len ∙ c.set_edge.ensures.len)

pub returns-clause-len : goal.returns-clause-len
returns-clause-len c = c.climb.ensures.len ∙ c.set_edge-2.ensures.len ∙ c.set_edge.ensures.len

pub set_edge-requires-2 : goal.set_edge-requires-2
set_edge-requires-2 c =
    let s : Search = c.args.search.now in let sound = c.requires.sound in
    let has = sym (ap (λ o. is_some o) c.mate.ensures.mate) ∙ c.is_none.ensures ∙ ap not c.if-is_none.false in
    let hop = some_hop (state_of s) sound.depth (nested_of s sound.shape) sound.state c.args.far c.requires.is c.requires.outer has in
    record { place = subst (λ n. c.hop-hop.result.inner < n) (sym c.set_edge.ensures.len) (inner_place s c.args.far c.hop-hop.result sound.shape hop c.hop-hop.ensures.hop) }
