use Rattle.alt_forest.proofs.Common.{◌≡◌, ◌∙◌, List, ◌++◌, length, ap, arith, Link, nodes_of, ring_of, nested_of, ring_room}
use Rattle.tree_steps.specs.Circuits.{before}
use Rattle.tree_steps.proofs.Rounds.{place_within, turned_round}
use Rattle.tree_steps.proofs.circuit.fill_round.Goals as goal

pub push_links-requires : goal.push_links-requires
push_links-requires c =
    let f = c.args.search.now in
    let room = ring_room f.graph.vertices f.arena.blossoms c.args.b (nested_of f c.requires.shape) c.requires.blossom in
    record { room = omega (arith, room, ap length c.ring.ensures.ring, c.clear.ensures.len, c.clear.ensures.capacity, c.requires.shape.circuit) }

pub overflow_add-place : goal.overflow_add-place
overflow_add-place c =
    let f = c.args.search.now in
    let room = ring_room f.graph.vertices f.arena.blossoms c.args.b (nested_of f c.requires.shape) c.requires.blossom in
    let items : c.push_links.new.circuit.items ≡ ring_of f.arena.blossoms c.args.b = c.push_links.ensures.items ∙ ap (λ (ls : List Link). ls ++ c.ring.result) c.clear.ensures.items
    ∙ c.ring.ensures.ring in
    omega (arith, room, c.place_of-place.ensures.within, ap length c.deref.ensures.value, ap length items, c.requires.shape.graph.limits.vertices)

pub rotate_left-requires : goal.rotate_left-requires
rotate_left-requires c =
    let f = c.args.search.now in
    let items : c.push_links.new.circuit.items ≡ ring_of f.arena.blossoms c.args.b = c.push_links.ensures.items ∙ ap (λ (ls : List Link). ls ++ c.ring.result) c.clear.ensures.items
    ∙ c.ring.ensures.ring in
    let place = c.place_of-place.ensures.place ∙ ap (λ (ls : List Link). length (before (nodes_of ls) c.args.base)) (c.deref.ensures.value ∙ items) in
    omega (arith, place_within (ring_of f.arena.blossoms c.args.b) c.args.base c.place_of-place.result c.requires.base place, ap length items)

pub returns-in-Some-clause-round : goal.returns-in-Some-clause-round
returns-in-Some-clause-round c =
    let f = c.args.search.now in
    let items : c.push_links.new.circuit.items ≡ ring_of f.arena.blossoms c.args.b = c.push_links.ensures.items ∙ ap (λ (ls : List Link). ls ++ c.ring.result) c.clear.ensures.items
    ∙ c.ring.ensures.ring in
    let place = c.place_of-place.ensures.place ∙ ap (λ (ls : List Link). length (before (nodes_of ls) c.args.base)) c.deref.ensures.value in
    turned_round (ring_of f.arena.blossoms c.args.b)
    c.push_links.new.circuit.items c.rotate_left.new.self.items c.pop.new.self.items c.args.base c.place_of-place.result c.in-Some.link c.requires.base items place
    c.rotate_left.ensures.items c.in-Some.ensures.items
