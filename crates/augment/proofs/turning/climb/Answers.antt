use Rattle.alt_forest.proofs.Common.{◌≡◌, ◌+◌, ◌<◌, ◌∙◌, ℕ, refl, false, sym, ap, subst, Some, Option, is_some, state_of, edge_in, put, State, IsOutermost}
use Rattle.alt_forest.proofs.Common.{node_limit, mate_place, HasGrandparentLink, IsRead}
use Rattle.alt_forest.specs.declared.search.Search.{Search}
use Rattle.alt_forest.specs.declared.grandparent.GrandparentLink.{GrandparentLink}
use Rattle.augment.specs.Turns.{CanClimb, IsClimbed}
use Rattle.augment.proofs.Climbing.{IsClimbing, shape_mated, inner_place, can_hop, climbing_on, climbing_shorter, climbing_done}
use Rattle.augment.proofs.turning.climb.Goals as goal

pub hop-hop-requires-clause-hop : goal.hop-hop-requires-clause-hop
hop-hop-requires-clause-hop c =
    let v = c.path.invariant in let s : Search = c.args.search.now in
    let has = sym (ap (λ o. is_some o) c.mate.ensures.mate) ∙ sym c.is_some.ensures ∙ c.path-test.true in
    subst (λ (x : Search). HasGrandparentLink (state_of x) c.path.node) (sym v.frame) (can_hop (state_of s) c.args.e c.args.start c.requires.possible
    (edge_in c.path.search.mates.items) c.path.edge c.path.node (v.climbing c.requires.possible) has)

pub path-smaller : goal.path-smaller
path-smaller c =
    let v = c.path.invariant in let s : Search = c.args.search.now in let t : Search = c.path.search in
    let k : GrandparentLink = c.hop-hop.result in
    let has = sym (ap (λ o. is_some o) c.mate.ensures.mate) ∙ sym c.is_some.ensures ∙ c.path-test.true in
    let read = subst (λ (x : Search). IsRead (state_of x) c.path.node k) v.frame c.hop-hop.ensures.hop in
    climbing_shorter (state_of s) c.args.e c.args.start c.requires.possible (edge_in t.mates.items) c.path.edge c.path.node (v.climbing c.requires.possible) has k read

pub path-preserved : goal.path-preserved
path-preserved c =
    let v = c.path.invariant in let s : Search = c.args.search.now in let t : Search = c.path.search in
    let k : GrandparentLink = c.hop-hop.result in
    let has = sym (ap (λ o. is_some o) c.mate.ensures.mate) ∙ sym c.is_some.ensures ∙ c.path-test.true in
    let read = subst (λ (x : Search). IsRead (state_of x) c.path.node k) v.frame c.hop-hop.ensures.hop in
    let m : ℕ → Option ℕ = edge_in c.set_edge-in-path.new.edges.items in
    let now : m ≡ put (put (edge_in t.mates.items) c.path.node (Some c.path.edge)) k.inner (Some k.parent) = c.set_edge-in-path.ensures.edges
    ∙ ap (λ n. put n k.inner (Some k.parent)) c.set_edge.ensures.edges in
    let on = λ (h : CanClimb (state_of s) c.args.e c.args.start). subst (λ (n : ℕ → Option ℕ). IsClimbing (state_of s) c.args.e c.args.start h n k.parent k.outer) (sym now)
    (climbing_on (state_of s) c.args.e c.args.start h (edge_in t.mates.items) c.path.edge c.path.node (v.climbing h) has k read) in
    let can = c.requires.possible in
    let is : IsOutermost (state_of s) k.outer = subst (λ (x : State). IsOutermost x k.outer) (sym can.is) (on can).loose.high_is in
    record {
      frame = ap (λ (u : Search). record u { mates = c.set_edge-in-path.new.edges }) v.frame;
      shape = shape_mated t _ v.shape refl (c.set_edge-in-path.ensures.len ∙ c.set_edge.ensures.len);
      is = subst (λ (x : Search). IsOutermost (state_of x) k.outer) (sym (ap (λ (u : Search). record u { mates = c.set_edge-in-path.new.edges }) v.frame)) is;
      climbing = on;
    }

pub returns : goal.returns
returns c =
    let s : Search = c.args.search.now in let t : Search = c.path.search in let v = c.path.invariant in
    let none : is_some (edge_in t.mates.items c.path.node) ≡ false = sym (ap (λ o. is_some o) c.mate.ensures.mate) ∙ sym c.is_some.ensures ∙ c.path-test.false in
    record {
      frame = ap (λ (u : Search). record u { mates = c.set_edge-2.new.edges }) v.frame;
      len = c.set_edge-2.ensures.len ∙ v.shape.mates ∙ ap (λ (u : Search). node_limit u.graph.vertices + 1) v.frame ∙ sym c.requires.shape.mates;
      climbed = λ h. subst (λ (n : ℕ → Option ℕ). IsClimbed h.was h.base (edge_in s.mates.items) n c.args.e c.args.start) (sym c.set_edge-2.ensures.edges)
          (climbing_done (state_of s) c.args.e c.args.start h (edge_in t.mates.items) c.path.edge c.path.node (v.climbing h) none);
    }

pub set_edge-requires-2 : goal.set_edge-requires-2
set_edge-requires-2 c = record { place = mate_place c.path.search c.path.node c.path.invariant.shape c.path.invariant.is }

pub set_edge-requires : goal.set_edge-requires
set_edge-requires c = record { place = mate_place c.path.search c.path.node c.path.invariant.shape c.path.invariant.is }

pub set_edge-requires-in-path : goal.set_edge-requires-in-path
set_edge-requires-in-path c =
    let v = c.path.invariant in
    let has = sym (ap (λ o. is_some o) c.mate.ensures.mate) ∙ sym c.is_some.ensures ∙ c.path-test.true in
    let hop = subst (λ (x : Search). HasGrandparentLink (state_of x) c.path.node) (sym v.frame) (can_hop (state_of c.args.search.now) c.args.e c.args.start c.requires.possible
    (edge_in c.path.search.mates.items) c.path.edge c.path.node (v.climbing c.requires.possible) has) in
    record { place = subst (λ n. c.hop-hop.result.inner < n) (sym c.set_edge.ensures.len) (inner_place c.path.search c.path.node c.hop-hop.result v.shape hop c.hop-hop.ensures.hop) }
