use Rattle.alt_forest.proofs.Common.{◌≡◌, ◌+◌, ℕ, ◌≤ℤ◌, ◌-ℤ◌, ℤ, pos, All, List, true, None, length, sym, ap, ap₂, ◌∙◌, subst, arith, both_ways}
use Rattle.alt_forest.proofs.Common.{NUMBER_LIMIT, holds, Blossom, is_vertex, names_of, name_no_vertex, Moments, with_moment, IsItem, IsBlossomEntered, ends_around, state_of, node_limit}
use Rattle.alt_forest.proofs.Common.{nested_of, outer_range, blossom_other}
use Rattle.alt_forest.specs.declared.search.Search.{Search}
use Rattle.search_heap.specs.declared.item.Item.TheVariants.{Blossom as OfBlossom}
use Rattle.search_keys.specs.declared.bounds.EventBounds.{EventBounds}
use Rattle.search_keys.specs.Bounds.{HasPlaces, bound_of}
use Rattle.search_keys.proofs.Stale.{KeepsOuter}
use Rattle.tree_steps.proofs.Bounded.{places_with, stale_after, vertex_no_name}
use Rattle.tree_steps.proofs.Left.{left_bounding}
use Rattle.tree_steps.proofs.LooksLeft.{looked_most}
use Rattle.tree_steps.proofs.Opened.{one_fewer}
use Rattle.tree_steps.proofs.steps_by_keys.expand_bounding.Given.{Over}
use Rattle.tree_steps.proofs.steps_by_keys.expand_bounding.Goals as goal

pub bound_circuit-requires-clause-low : goal.bound_circuit-requires-clause-low
bound_circuit-requires-clause-low g c = subst (λ (f : Search). pos 0 ≤ℤ f.clock) (sym c.open_blossom.ensures.frame) c.requires.vertex_keys.low

pub bound_circuit-requires-clause-high : goal.bound_circuit-requires-clause-high
bound_circuit-requires-clause-high g c = subst (λ (f : Search). f.clock ≤ℤ NUMBER_LIMIT) (sym c.open_blossom.ensures.frame) c.requires.vertex_keys.high

pub bound_circuit-requires-clause-places : goal.bound_circuit-requires-clause-places
bound_circuit-requires-clause-places g c = subst (λ (f : Search). HasPlaces f.graph c.args.bounds.now) (sym c.open_blossom.ensures.frame) c.requires.vertex_keys.places

pub remove-requires-clause-low : goal.remove-requires-clause-low
remove-requires-clause-low g c = (outer_range c.args.search.now c.args.b c.requires.sound.shape c.requires.possible.outermost).0

pub remove-requires-clause-high : goal.remove-requires-clause-high
remove-requires-clause-high g c =
    let f = c.args.search.now in let k = c.open_blossom.new.search in
    let limit : node_limit k.graph.vertices ≡ node_limit f.graph.vertices = ap (λ (x : Search). node_limit x.graph.vertices) c.open_blossom.ensures.frame in
    omega (arith, limit, (outer_range f c.args.b c.requires.sound.shape c.requires.possible.outermost).1, c.bound_circuit.ensures.places.nodes)

module _ (g : Over) (c : goal.After-enter_scanned-arg-2-1 g) where
  abbrev f : Search
  f = c.args.search.now

  abbrev k : Search
  k = c.open_blossom.new.search

  abbrev before : EventBounds
  before = c.args.bounds.now

  abbrev d : EventBounds
  d = c.bound_circuit.new.bounds

  abbrev now : EventBounds
  now = c.remove.new.self

  clock : k.clock ≡ f.clock
  clock = ap (λ (y : Search). y.clock) c.open_blossom.ensures.frame

  moments : now.moments ≡ with_moment d.moments (OfBlossom c.args.b) None
  moments = ap (λ (y : EventBounds). y.moments) c.remove.ensures

  item : IsItem d.moments (OfBlossom c.args.b)
  item = (remove-requires-clause-low g c.before.before.before, remove-requires-clause-high g c.before.before.before)

  -- only moments have changed
  only : now ≡ record before { moments = now.moments }
  only =
      c.remove.ensures ∙ ap (λ (y : EventBounds). let z : EventBounds = record y { moments = with_moment d.moments (OfBlossom c.args.b) None } in z) c.bound_circuit.ensures.frame
      ∙ ap (λ (m : Moments). let z : EventBounds = record before { moments = m } in z) (sym moments)

  -- a vertex keeps its moment
  vertex_stays : (v : ℕ) → is_vertex f.graph.vertices v ≡ true → bound_of now.moments v ≡ bound_of before.moments v
  vertex_stays v is =
      let nested = nested_of f c.requires.sound.shape in
      ap (λ (m : Moments). bound_of m v) moments
      ∙ blossom_other d.moments c.args.b v None item
      (λ at. both_ways (is_vertex f.graph.vertices v) (ap (is_vertex f.graph.vertices) at ∙ name_no_vertex f.graph.vertices f.arena.blossoms c.args.b nested c.requires.possible.blossom) is)
      ∙ c.bound_circuit.ensures.entered.vertices v (vertex_no_name k.graph.vertices k.arena.blossoms v (nested_of k c.open_blossom.ensures.sound.shape)
      (ap (λ (y : Search). is_vertex y.graph.vertices v) c.open_blossom.ensures.frame ∙ is))

  blossoms : (a : ℕ) → holds (names_of k.arena.blossoms) a ≡ true → IsBlossomEntered (state_of k) f.clock now.moments a
  blossoms = c.open_blossom.ensures.opening.entered f.clock before.moments d.moments now.moments item moments c.requires.vertex_keys.blossoms
      (λ a on name. subst (λ z. IsBlossomEntered (state_of k) z d.moments a) clock (c.bound_circuit.ensures.entered.entered a (c.open_blossom.ensures.circuit a ∙ on) name))
      (λ a out. c.bound_circuit.ensures.entered.others a (c.open_blossom.ensures.circuit a ∙ out))

  keeps : KeepsOuter f k
  keeps = record {
    graph = ap (λ (y : Search). y.graph) c.open_blossom.ensures.frame;
    weights = ap (λ (y : Search). y.weights) c.open_blossom.ensures.frame;
    outer = c.open_blossom.ensures.opening.outer;
    reach = λ v is outer. ap₂ (λ (y z : ℤ). y -ℤ z) (c.open_blossom.ensures.opening.leaves.sum v is) clock;
    apart = c.open_blossom.ensures.opening.apart;
  }

pub enter_scanned-requires-clause-vertex_keys : goal.enter_scanned-requires-clause-vertex_keys
enter_scanned-requires-clause-vertex_keys g c =
    left_bounding c.requires.sound c.open_blossom.ensures.opening.leaves (clock g c) (before g c) (now g c) c.requires.vertex_keys
    (ap (λ (y : Search). y.weights) c.open_blossom.ensures.frame)
    (ap (λ (y : Search). y.queue) c.open_blossom.ensures.frame)
    (subst (HasPlaces (f g c).graph) (sym c.remove.ensures)
    (places_with (f g c).graph (d g c) (OfBlossom c.args.b) None (subst (λ (y : Search). HasPlaces y.graph (d g c)) c.open_blossom.ensures.frame c.bound_circuit.ensures.places)))
    (only g c) (vertex_stays g c) (blossoms g c)

pub enter_scanned-requires-clause-vertices : goal.enter_scanned-requires-clause-vertices
enter_scanned-requires-clause-vertices g c =
    let k = c.open_blossom.new.search in
    subst (λ (f : Search). All (λ v. is_vertex f.graph.vertices v ≡ true) k.scanned.items) (sym c.open_blossom.ensures.frame) c.open_blossom.ensures.opening.vertices

pub returns-clause-stale : goal.returns-clause-stale
returns-clause-stale g c =
    let x = c.before in
    stale_after (f g x) (k g x) (before g x) (now g x) c.enter_scanned.new.self c.requires.sound.shape c.requires.vertex_keys.hints (keeps g x) (only g x) c.enter_scanned.ensures.known_keys

pub returns-clause-inspections : goal.returns-clause-inspections
returns-clause-inspections g c =
    let f = c.args.search.now in let k = c.open_blossom.new.search in
    let around : ends_around k.graph k.scanned.items ≡ ends_around f.graph k.scanned.items = ap (λ (x : Search). ends_around x.graph k.scanned.items) c.open_blossom.ensures.frame in
    omega (arith, around, looked_most (state_of k) k.scanned.items, c.open_blossom.ensures.opening.ends, c.enter_scanned.ensures.inspections, c.tick.ensures)

-- the blossom is gone
pub returns-clause-one_fewer : goal.returns-clause-one_fewer
returns-clause-one_fewer g c =
    ap (λ (bs : List Blossom). length bs + 1) c.open_blossom.ensures.expanded.blossoms ∙ one_fewer c.args.search.now.arena.blossoms c.args.b c.requires.possible.blossom
