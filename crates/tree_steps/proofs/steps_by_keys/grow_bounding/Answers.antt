use Rattle.alt_forest.proofs.Common.{◌≡◌, ◌∙◌, ◌+◌, ◌-ℤ◌, ℕ, ℤ, All, true, sym, ap, ap₂, subst, arith, holds, is_vertex, names_of, outermost, State, IsOutermost}
use Rattle.alt_forest.proofs.Common.{dual_sum, CanGrow, state_of}
use Rattle.alt_forest.specs.declared.search.Search.{Search}
use Rattle.search_keys.specs.declared.bounds.EventBounds.{EventBounds}
use Rattle.search_keys.specs.Bounds.{HasPlaces}
use Rattle.search_keys.proofs.Stale.{KeepsOuter}
use Rattle.tree_steps.specs.Grown.{grown}
use Rattle.tree_steps.proofs.Bounded.{stale_after, vertex_no_name}
use Rattle.tree_steps.proofs.EnteredCircuit.{is_entered}
use Rattle.tree_steps.proofs.Grown.{Grows, grows, grow_inside, grown_blossom}
use Rattle.tree_steps.proofs.Left.{left_bounding}
use Rattle.tree_steps.proofs.LooksLeft.{looks_within}
use Rattle.tree_steps.proofs.steps_by_keys.grow_bounding.Given.{Over}
use Rattle.tree_steps.proofs.steps_by_keys.grow_bounding.Goals as goal

pub enter_blossom-requires-clause-outermost : goal.enter_blossom-requires-clause-outermost
enter_blossom-requires-clause-outermost g c =
    let can = c.requires.possible in
    subst (λ (f : Search). IsOutermost (state_of f) c.extend_tree-far.result) (sym c.extend_tree-far.ensures.frame)
    (subst (IsOutermost (state_of c.args.search.now)) (sym (c.extend_tree-far.ensures.far can)) can.far_is)

module _ (g : Over) (c : goal.After-enter_scanned-arg-2-1 g) where
  abbrev f : Search
  f = c.args.search.now

  abbrev k : Search
  k = c.extend_tree-far.new.search

  abbrev can : CanGrow (state_of f) c.args.e
  can = c.requires.possible

  abbrev mate : ℕ
  mate = (c.extend_tree-far.ensures.mate can).0

  h : Grows (state_of f) c.requires.sound.depth c.args.e mate can
  h = grows f c.args.e mate c.requires.sound can (c.extend_tree-far.ensures.mate can).1

  state : state_of k ≡ grown (state_of f) c.args.e can.far mate
  state = c.extend_tree-far.ensures.grown can mate h.pair

  clock : k.clock ≡ f.clock
  clock = ap (λ (y : Search). y.clock) c.extend_tree-far.ensures.frame

  keeps : KeepsOuter f k
  keeps = record {
    graph = ap (λ (y : Search). y.graph) c.extend_tree-far.ensures.frame;
    weights = ap (λ (y : Search). y.weights) c.extend_tree-far.ensures.frame;
    outer = λ v is outer. ap (λ (y : State). y.label (outermost y.blossoms v)) state ∙ grow_inside h v is outer;
    reach = λ v is outer. ap₂ (λ (y z : ℤ). y -ℤ z) (ap (λ (y : State). dual_sum y v) state) clock;
    apart = λ v u v_is u_is outer off at.
        let node : (w : ℕ) → outermost k.arena.blossoms w ≡ outermost f.arena.blossoms w = λ w. ap (λ (y : Search). outermost y.arena.blossoms w) c.extend_tree-far.ensures.frame in
        off (sym (node v) ∙ at ∙ node u);
  }

pub enter_scanned-requires-clause-vertex_keys : goal.enter_scanned-requires-clause-vertex_keys
enter_scanned-requires-clause-vertex_keys g c =
    let f = c.args.search.now in let k = c.extend_tree-far.new.search in
    let rest = c.extend_tree-far.ensures.frame in let e = c.enter_blossom.ensures in
    let b : EventBounds = c.args.bounds.now in let d : EventBounds = c.enter_blossom.new.self in
    left_bounding c.requires.sound c.extend_tree-far.ensures.step.leaves (clock g c) b d c.requires.vertex_keys (ap (λ (y : Search). y.weights) rest) (ap (λ (y : Search). y.queue) rest)
    (subst (λ (y : Search). HasPlaces y.graph d) rest e.places) e.frame
    (λ v is. (is_entered (state_of k) k.clock c.extend_tree-far.result b.moments d.moments e.entered (λ none. ap (λ (x : EventBounds). x.moments) (e.none none)) e.others).vertices v
    (ap (λ (y : Search). holds (names_of y.arena.blossoms) v) rest ∙ vertex_no_name f.graph.vertices f.arena.blossoms v (h g c).nested is))
    (grown_blossom f k c.args.e (mate g c) c.extend_tree-far.result b.moments d.moments (h g c) (c.extend_tree-far.ensures.far c.requires.possible) (state g c) (clock g c)
    c.requires.vertex_keys.blossoms e.entered e.others)

pub enter_scanned-requires-clause-vertices : goal.enter_scanned-requires-clause-vertices
enter_scanned-requires-clause-vertices g c =
    let k = c.extend_tree-far.new.search in
    subst (λ (f : Search). All (λ v. is_vertex f.graph.vertices v ≡ true) k.scanned.items) (sym c.extend_tree-far.ensures.frame) c.extend_tree-far.ensures.step.vertices

pub returns-clause-stale : goal.returns-clause-stale
returns-clause-stale g c =
    stale_after c.args.search.now c.extend_tree-far.new.search c.args.bounds.now c.enter_blossom.new.self c.enter_scanned.new.self c.requires.sound.shape c.requires.vertex_keys.hints
    (keeps g c.before) c.enter_blossom.ensures.frame c.enter_scanned.ensures.known_keys

pub returns-clause-inspections : goal.returns-clause-inspections
returns-clause-inspections g c =
    let f = c.args.search.now in let k = c.extend_tree-far.new.search in
    looks_within (state_of f) (state_of k) k.scanned.items (c.args.steps.now + 1) c.enter_scanned.new.steps (ap (λ (x : Search). x.graph) c.extend_tree-far.ensures.frame)
    c.extend_tree-far.ensures.step.blossoms c.extend_tree-far.ensures.step.ends (omega (arith, c.enter_scanned.ensures.inspections, c.tick.ensures))
