use Rattle.alt_forest.proofs.Common.{◌<◌, ◌+◌, ◌∙◌, sym, ap, subst, arith, vec_len, None, AllByRecursion, IsEdgeNumber, Link, most_blossoms, ring_of, edge_in}
use Rattle.augment.specs.Opening.{links_before, links_after, spread_in, paired, waiting_after, base_in}
use Rattle.augment.proofs.Bases.{found, ring_places, each_edge, behind_edges, opened_at}
use Rattle.augment.proofs.opening.open.Goals as goal

pub base_of-base-requires-clause-places : goal.base_of-base-requires-clause-places
base_of-base-requires-clause-places c =
    let low = subst (λ n. n + most_blossoms n < vec_len c.args.mates.now) c.requires.possible.vertices c.requires.places in
    ring_places c.args.graph.now c.args.arena.now (edge_in c.args.mates.now.items) c.args.b c.args.inner c.requires.possible _ (omega (arith, low, c.deref.ensures.len))

pub pair_until-waiting-requires-clause-each : goal.pair_until-waiting-requires-clause-each
pair_until-waiting-requires-clause-each c =
    let g = c.args.graph.now in let f = c.args.arena.now in let m = edge_in c.args.mates.now.items in
    let same = c.base_of-base.ensures ∙ ap (λ xs. base_in (edge_in xs) (ring_of f.blossoms c.args.b) c.args.inner) c.deref.ensures.value
    ∙ found g f m c.args.b c.args.inner c.requires.possible in
    subst (AllByRecursion (λ (l : Link). IsEdgeNumber g l.edge)) (sym
    (c.links_behind-behind.ensures ∙ ap (λ r. links_after r c.base_of-base.result) c.ring.ensures.ring ∙ ap (links_after (ring_of f.blossoms c.args.b)) same))
    (behind_edges g f m c.args.b c.args.inner c.requires.possible)

pub pair_until-requires-clause-each : goal.pair_until-requires-clause-each
pair_until-requires-clause-each c =
    subst (AllByRecursion (λ (l : Link). IsEdgeNumber c.args.graph.now l.edge)) (sym c.ring-2.ensures.ring)
    (each_edge c.args.graph.now c.args.arena.now (edge_in c.args.mates.now.items) c.args.b c.args.inner c.requires.possible)

pub returns : goal.returns
returns c =
    let g = c.args.graph.now in let f = c.args.arena.now in let b = c.args.b in
    let m = edge_in c.args.mates.now.items in let at = c.base_of-base.result in
    let same = c.base_of-base.ensures ∙ ap (λ xs. base_in (edge_in xs) (ring_of f.blossoms b) c.args.inner) c.deref.ensures.value ∙ found g f m b c.args.inner c.requires.possible in
    let behind = c.links_behind-behind.ensures ∙ ap (λ r. links_after r at) c.ring.ensures.ring in
    let r = opened_at g f m b c.args.inner c.requires.possible at same (edge_in c.pair_until-waiting.new.mates.items) (edge_in c.pair_until.new.mates.items) c.pair_until-waiting.result
    (c.pair_until-waiting.ensures.mates ∙ ap (λ r. paired (spread_in g f.blossoms b) m None (links_before r at)) behind)
    (c.pair_until-waiting.ensures.waiting ∙ ap (λ r. waiting_after None (links_before r at)) behind)
    (c.pair_until.ensures.mates ∙ ap (λ r. paired (spread_in g f.blossoms b) (edge_in c.pair_until-waiting.new.mates.items) c.pair_until-waiting.result
    (links_before r at)) c.ring-2.ensures.ring) in
    record { opens = r.opens; bare = r.bare; spread = r.spread; len = c.pair_until.ensures.len ∙ c.pair_until-waiting.ensures.len }
