use Rattle.alt_forest.proofs.Common.{refl, ◌+◌, ◌≡◌, ◌∙◌, ℕ, All, Some, true, sym, ap, subst, edge_of, holds, is_vertex, members_of, names_of, entry, moment_of, State}
use Rattle.alt_forest.proofs.Common.{IsOutermost}
use Rattle.alt_forest.proofs.Common.{is_outside, IsPlanted, NeedsMoment, IsBlossomEntered, HasNoTree, touches_any, CanGrow, state_of, HasTreeNodes, joins_turned, needs_none_inner}
use Rattle.alt_forest.proofs.Common.{tree_nodes_with, NUMBER_LIMIT, exposed_count, measure, outside_among, tree_count, ends_around, entered_among, entry_count, outside_ends}
use Rattle.alt_forest.specs.declared.search.Search.{Search}
use Rattle.graph_theory.proofs.Common.{length, pos, ◌≤ℤ◌, ◌<◌, ◌≤◌, arith, Multigraph, IsEdgeNumber}
use Rattle.search_heap.specs.declared.item.Item.TheVariants.{Blossom as OfBlossom}
use Rattle.tree_steps.specs.Grown.{grown}
use Rattle.tree_steps.specs.Left.{Leaves}
use Rattle.tree_steps.proofs.Grown.{Grows, grows, far_now, grow_tree, grow_missed, grown_blossom}
use Rattle.tree_steps.proofs.LooksLeft.{left_after}
use Rattle.tree_steps.proofs.Left.{only_queue, left_queued}
use Rattle.tree_steps.proofs.growth.grow.Given.{Over}
use Rattle.tree_steps.proofs.growth.grow.Goals as goal

pub enter_blossom-requires-clause-outermost : goal.enter_blossom-requires-clause-outermost
enter_blossom-requires-clause-outermost g c =
    subst (λ (f : Search). IsOutermost (state_of f) c.extend_tree-far.result) (sym c.extend_tree-far.ensures.frame)
    (subst (IsOutermost (state_of c.args.search.now)) (sym (c.extend_tree-far.ensures.far c.requires.possible)) c.requires.possible.far_is)

module _ (g : Over) (c : goal.After-look_on-arg-2-1 g) where
  abbrev f : Search
  f = c.args.search.now

  abbrev f1 : Search
  f1 = c.extend_tree-far.new.search

  abbrev can : CanGrow (state_of f) c.args.e
  can = c.requires.possible

  abbrev mate : ℕ
  mate = (c.extend_tree-far.ensures.mate can).0

  abbrev t : State
  t = grown (state_of f) c.args.e can.far mate

  h : Grows (state_of f) c.requires.sound.depth c.args.e mate can
  h = grows f c.args.e mate c.requires.sound can (c.extend_tree-far.ensures.mate can).1

  state1 : state_of f1 ≡ t
  state1 = c.extend_tree-far.ensures.grown can mate h.pair

  state2 : state_of c.enter_blossom.new.self ≡ t
  state2 = ap state_of c.enter_blossom.ensures.frame ∙ state1

  blossom : (b : ℕ) → holds (names_of f1.arena.blossoms) b ≡ true → IsBlossomEntered (state_of f1) f.clock c.enter_blossom.new.self.queue b
  blossom = grown_blossom f f1 c.args.e mate c.extend_tree-far.result f.queue c.enter_blossom.new.self.queue h (c.extend_tree-far.ensures.far can) state1
      (ap (λ (y : Search). y.clock) c.extend_tree-far.ensures.frame) c.requires.event_times.blossoms c.enter_blossom.ensures.entered
      (λ a ne. c.enter_blossom.ensures.others a ne ∙ ap (λ (y : Search). moment_of y.queue (OfBlossom a)) c.extend_tree-far.ensures.frame)

pub look_on-requires-clause-had : goal.look_on-requires-clause-had
look_on-requires-clause-had g c =
    let can = c.requires.possible in (
      _,
      ap (λ es. entry es c.args.e) c.enter_blossom.ensures.edges ∙ ap (λ (y : Search). entry y.queue.edges c.args.e) c.extend_tree-far.ensures.frame
          ∙ (c.requires.event_times.edges c.args.e can.tight.edge).to_out can.near can.far can.joins can.near_outer can.far_out,
    )

pub look_on-requires-clause-free : goal.look_on-requires-clause-free
look_on-requires-clause-free g c = λ m.
    let f = c.args.search.now in let can = c.requires.possible in
    subst (λ (y : State). NeedsMoment y c.enter_blossom.new.self.clock c.args.e m) (sym (state2 g c))
    (needs_none_inner (t g c) c.enter_blossom.new.self.clock c.args.e can.far can.near (λ x. m ≡ Some x)
    (joins_turned f.graph f.arena.blossoms c.args.e can.near can.far can.joins) (far_now (h g c)))

pub look_on-requires-clause-missed : goal.look_on-requires-clause-missed
look_on-requires-clause-missed g c =
    ap (λ (y : Search). touches_any y.scanned.items (edge_of y.graph c.args.e)) c.enter_blossom.ensures.frame
    ∙ ap (λ vs. touches_any vs (edge_of c.extend_tree-far.new.search.graph c.args.e)) (c.extend_tree-far.ensures.mate c.requires.possible).2
    ∙ ap (λ (y : Search). touches_any (members_of c.args.search.now.arena.blossoms (mate g c)) (edge_of y.graph c.args.e)) c.extend_tree-far.ensures.frame ∙ grow_missed (h g c)

pub look_on-requires-clause-vertices : goal.look_on-requires-clause-vertices
look_on-requires-clause-vertices g c =
    subst (λ (y : Search). All (λ v. is_vertex y.graph.vertices v ≡ true) y.scanned.items) (sym c.enter_blossom.ensures.frame)
    (subst (λ (y : Search). All (λ v. is_vertex y.graph.vertices v ≡ true) c.extend_tree-far.new.search.scanned.items) (sym c.extend_tree-far.ensures.frame)
    c.extend_tree-far.ensures.step.vertices)

pub look_on-requires-clause-event_times : goal.look_on-requires-clause-event_times
look_on-requires-clause-event_times g c =
    left_queued c.requires.sound
    (subst (λ (y : Search). Leaves (state_of c.args.search.now) (state_of y) y.scanned.items) (sym c.enter_blossom.ensures.frame) c.extend_tree-far.ensures.step.leaves)
    (ap (λ (y : Search). y.clock) c.enter_blossom.ensures.frame ∙ ap (λ (y : Search). y.clock) c.extend_tree-far.ensures.frame) c.requires.event_times
    (c.enter_blossom.ensures.edges ∙ ap (λ (y : Search). y.queue.edges) c.extend_tree-far.ensures.frame)
    (subst (λ (y : Search). (b : ℕ) → holds (names_of y.arena.blossoms) b ≡ true → IsBlossomEntered (state_of y) c.args.search.now.clock c.enter_blossom.new.self.queue b)
    (sym c.enter_blossom.ensures.frame) (blossom g c))
    (λ none. grow_tree (h g c) (subst HasNoTree (state2 g c) none))

-- only the queue changes once the tree has grown
only : (g : Over) (c : goal.After-look_on g) → c.look_on.new.search ≡ record c.extend_tree-far.new.search { queue = c.look_on.new.search.queue }
only g c = only_queue c.extend_tree-far.new.search c.enter_blossom.new.self c.look_on.new.search c.enter_blossom.ensures.frame c.look_on.ensures.frame

pub enter_blossom-requires-clause-low : goal.enter_blossom-requires-clause-low
enter_blossom-requires-clause-low g c = subst (λ (y : Search). pos 0 ≤ℤ y.clock) (sym c.extend_tree-far.ensures.frame) c.requires.event_times.low

pub enter_blossom-requires-clause-high : goal.enter_blossom-requires-clause-high
enter_blossom-requires-clause-high g c = subst (λ (y : Search). y.clock ≤ℤ NUMBER_LIMIT) (sym c.extend_tree-far.ensures.frame) c.requires.event_times.high

pub look_on-requires-clause-same_graph : goal.look_on-requires-clause-same_graph
look_on-requires-clause-same_graph g c = c.requires.same_graph
    ∙ sym (ap (λ (y : Search). y.graph) c.enter_blossom.ensures.frame ∙ ap (λ (y : Search). y.graph) c.extend_tree-far.ensures.frame)

pub look_on-requires-clause-edge : goal.look_on-requires-clause-edge
look_on-requires-clause-edge g c = subst (λ (d : Multigraph). IsEdgeNumber d c.args.e)
    (sym (ap (λ (y : Search). y.graph) c.enter_blossom.ensures.frame ∙ ap (λ (y : Search). y.graph) c.extend_tree-far.ensures.frame)) c.requires.possible.tight.edge

pub returns : goal.returns
returns g c =
    let f : Search = c.args.search.now in let f1 : Search = c.extend_tree-far.new.search in
    let new : Search = c.look_on.new.search in let e = c.extend_tree-far.ensures in let now = only g c in
    let is = now ∙ ap (λ (y : Search). let x : Search = record y { queue = new.queue } in x) e.frame in
    let blossoms = subst (λ (y : Search). outside_among (state_of y) y.arena.blossoms ≤ outside_among (state_of f) f.arena.blossoms) (sym now) e.step.blossoms in
    let ends = ap (λ (y : Search). ends_around y.graph y.scanned.items) c.enter_blossom.ensures.frame ∙ ap (λ (y : Search). ends_around y.graph f1.scanned.items) e.frame in
    let around : c.look_on.new.steps + outside_ends (state_of new) ≤ c.args.steps.now + 1 + outside_ends (state_of f) =
    omega (arith, e.step.ends, c.look_on.ensures.inspections, c.tick.ensures, ends, ap (λ (y : Search). outside_ends (state_of y)) now) in
    record {
      grown = λ can mate pair. ap state_of now ∙ e.grown can mate pair;
      frame = rw is refl;
      sound = c.look_on.ensures.sound;
      event_times = c.look_on.ensures.event_times;
      taken = c.look_on.ensures.taken;
      listed = subst HasTreeNodes (sym now) (tree_nodes_with f1 new.queue e.listed);
      trees = ap (λ (y : Search). tree_count (state_of y)) now ∙ e.step.trees;
      exposed = ap (λ (y : Search). exposed_count (state_of y)) now ∙ e.step.exposed;
      all_rooted = λ was. subst (λ (y : Search). IsPlanted (state_of y)) (sym now) (e.step.all_rooted was);
      falls = subst (λ (y : Search). measure (state_of y) < measure (state_of f)) (sym now) e.step.falls;
      inside = λ w is out. e.step.inside w is (ap (λ (y : Search). is_outside (state_of y) w) (sym now) ∙ out);
      blossoms = blossoms;
      inspections = left_after (outside_ends (state_of new)) (outside_ends (state_of f)) _ _ _ _ _ _ (ap (λ (y : Search). length y.graph.edges) is) blossoms around;
      edge_ends = around;
      count = omega (arith, c.look_on.ensures.count, c.tick.ensures, ap entered_among c.enter_blossom.ensures.edges, ap (λ (y : Search). entry_count y.queue) e.frame);
    }
