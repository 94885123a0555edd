use Rattle.alt_forest.proofs.Common.{refl, ◌≡◌, ◌∙◌, ◌+ℤ◌, pos, All, Some, true, sym, ap, subst, inl, arith, ints, edge_of, is_vertex, outermost, Moments, entry}
use Rattle.alt_forest.proofs.Common.{is_outside}
use Rattle.alt_forest.proofs.Common.{ℕ, ◌+◌, ◌<◌, ◌≤◌, length, Multigraph, ring_of, outside_among, ends_around, outside_ends, tree_count, exposed_count, measure, entry_count}
use Rattle.alt_forest.proofs.Common.{IsPlanted, IsBlossomEntered, HasNoTree, state_of, HasTreeNodes, needs_none_within, tree_nodes_with}
use Rattle.alt_forest.specs.declared.search.Search.{Search}
use Rattle.tree_steps.specs.Shrinkable.{IsShrunk}
use Rattle.tree_steps.proofs.Left.{left_queued}
use Rattle.tree_steps.proofs.LooksLeft.{left_after}
use Rattle.tree_steps.proofs.Shrunk.{closing, shrink_tree, shrunk_blossom}
use Rattle.tree_steps.proofs.shrinking.shrink.Goals as goal

pub look_on-requires-clause-had : goal.look_on-requires-clause-had
look_on-requires-clause-had g c =
    let can = c.requires.possible in
    let twice : pos 0 ≡ pos 0 +ℤ pos 0 = omega (arith, ints) in (
      _,
      ap (λ (y : Search). entry y.queue.edges c.args.e) c.shrink_closed-node.ensures.frame
          ∙ (c.requires.event_times.edges c.args.e can.tight.edge).between can.one can.other (pos 0) can.joins can.different can.one_outer can.other_outer (can.tight.tight ∙ twice),
    )

pub look_on-requires-clause-free : goal.look_on-requires-clause-free
look_on-requires-clause-free g c = λ m.
    let f1 = c.shrink_closed-node.new.search in
    needs_none_within (state_of f1) f1.clock c.args.e c.shrink_closed-node.result (λ x. m ≡ Some x) (inl (
      ap (λ (y : Search). outermost f1.arena.blossoms (edge_of y.graph c.args.e).u) c.shrink_closed-node.ensures.frame ∙ c.shrink_closed-node.ensures.holds_u,
      ap (λ (y : Search). outermost f1.arena.blossoms (edge_of y.graph c.args.e).v) c.shrink_closed-node.ensures.frame ∙ c.shrink_closed-node.ensures.holds_v,
    ))

pub look_on-requires-clause-vertices : goal.look_on-requires-clause-vertices
look_on-requires-clause-vertices g c =
    subst (λ (y : Search). All (λ v. is_vertex y.graph.vertices v ≡ true) c.shrink_closed-node.new.search.scanned.items) (sym c.shrink_closed-node.ensures.frame)
    c.shrink_closed-node.ensures.step.vertices

pub look_on-requires-clause-event_times : goal.look_on-requires-clause-event_times
look_on-requires-clause-event_times g c =
    let f = c.args.search.now in let f1 = c.shrink_closed-node.new.search in
    let node = c.shrink_closed-node.result in let e = c.shrink_closed-node.ensures in
    let queue = ap (λ (y : Search). y.queue) e.frame in
    left_queued c.requires.sound e.step.leaves (ap (λ (y : Search). y.clock) e.frame) c.requires.event_times (ap (λ (q : Moments). q.edges) queue)
    (λ b name. subst (λ (q : Moments). IsBlossomEntered (state_of f1) f.clock q b) (sym queue)
    (shrunk_blossom f f1 node f.queue c.requires.sound e.sound e.shrunk c.requires.event_times.blossoms b name))
    (λ none. shrink_tree (closing f f1 node c.requires.sound e.sound e.shrunk) (subst HasNoTree e.shrunk.state none))

pub returns : goal.returns
returns g c =
    let f : Search = c.args.search.now in let f1 : Search = c.shrink_closed-node.new.search in
    let new : Search = c.look_on.new.search in let node : ℕ = c.shrink_closed-node.result in
    let e = c.shrink_closed-node.ensures in let now = c.look_on.ensures.frame in
    let is = now ∙ ap (λ (y : Search). let x : Search = record y { queue = new.queue } in x) e.frame in
    let blossoms = subst (λ (y : Search). outside_among (state_of y) y.arena.blossoms ≤ outside_among (state_of f) f.arena.blossoms) (sym now) e.step.blossoms in
    let around : c.look_on.new.steps + outside_ends (state_of new) ≤ c.args.steps.now + 1 + outside_ends (state_of f) = omega (
      arith,
      e.step.ends,
      c.look_on.ensures.inspections,
      c.tick.ensures,
      ap (λ (y : Search). ends_around y.graph f1.scanned.items) e.frame,
      ap (λ (y : Search). outside_ends (state_of y)) now,
    ) in
    record {
      shrunk = subst (λ (y : Search). IsShrunk (state_of f) (state_of y) node) (sym now) e.shrunk;
      circuit = ap (λ (y : Search). ring_of y.arena.blossoms node) now ∙ e.circuit;
      holds_u = ap (λ (y : Search). outermost y.arena.blossoms (edge_of c.args.graph.now c.args.e).u) now
          ∙ ap (λ (d : Multigraph). outermost f1.arena.blossoms (edge_of d c.args.e).u) c.requires.same_graph ∙ e.holds_u;
      holds_v = ap (λ (y : Search). outermost y.arena.blossoms (edge_of c.args.graph.now c.args.e).v) now
          ∙ ap (λ (d : Multigraph). outermost f1.arena.blossoms (edge_of d c.args.e).v) c.requires.same_graph ∙ e.holds_v;
      frame = rw is refl;
      sound = c.look_on.ensures.sound;
      event_times = c.look_on.ensures.event_times;
      taken = c.look_on.ensures.taken;
      listed = subst HasTreeNodes (sym now) (tree_nodes_with f1 new.queue e.listed);
      trees = ap (λ (y : Search). tree_count (state_of y)) now ∙ e.step.trees;
      exposed = ap (λ (y : Search). exposed_count (state_of y)) now ∙ e.step.exposed;
      all_rooted = λ was. subst (λ (y : Search). IsPlanted (state_of y)) (sym now) (e.step.all_rooted was);
      falls = subst (λ (y : Search). measure (state_of y) < measure (state_of f)) (sym now) e.step.falls;
      inside = λ w is out. e.step.inside w is (ap (λ (y : Search). is_outside (state_of y) w) (sym now) ∙ out);
      blossoms = blossoms;
      inspections = left_after (outside_ends (state_of new)) (outside_ends (state_of f)) _ _ _ _ _ _ (ap (λ (y : Search). length y.graph.edges) is) blossoms around;
      edge_ends = around;
      count = omega (arith, c.look_on.ensures.count, c.tick.ensures, ap (λ (y : Search). entry_count y.queue) e.frame);
    }
