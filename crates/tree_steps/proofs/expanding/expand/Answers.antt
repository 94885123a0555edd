use Rattle.alt_forest.proofs.Common.{refl, ◌≡◌, ◌∙◌, ◌+◌, ℕ, true, None, All, sym, ap, subst, arith, Multigraph, holds, is_vertex, names_of, Moments, entry, moment_of}
use Rattle.alt_forest.proofs.Common.{is_outside, exposed_count, measure, outside_among, tree_count, ends_around, entered_among, looks_left, ◌<◌, IsPlanted, HasTreeNodes, State}
use Rattle.alt_forest.proofs.Common.{IsBlossomEntered, HasNoTree, ends_looked, outside_ends, out_ends, state_of, node_limit, outer_range}
use Rattle.alt_forest.proofs.Common.{blossom_set, node_item, tree_nodes_with}
use Rattle.alt_forest.specs.declared.search.Search.{Search}
use Rattle.search_heap.specs.declared.item.Item.TheVariants.{Blossom as OfBlossom}
use Rattle.tree_steps.specs.Expanded.{IsExpanded}
use Rattle.tree_steps.specs.Left.{Leaves}
use Rattle.tree_steps.proofs.Counted.{outside_before}
use Rattle.tree_steps.proofs.Left.{only_queue, left_queued}
use Rattle.tree_steps.proofs.expanding.expand.Given.{Over}
use Rattle.tree_steps.proofs.expanding.expand.Goals as goal

pub drop_entry-requires-clause-item : goal.drop_entry-requires-clause-item
drop_entry-requires-clause-item g c =
    let s : Search = c.args.search.now in let t : Search = c.enter_circuit.new.search in
    let range = outer_range s c.args.b c.requires.sound.shape c.requires.possible.outermost in
    let same : t.graph ≡ s.graph = ap (λ (x : Search). x.graph) c.enter_circuit.ensures.frame ∙ ap (λ (x : Search). x.graph) c.open_blossom.ensures.frame in
    let limit : node_limit t.graph.vertices ≡ node_limit s.graph.vertices = ap (λ (k : Multigraph). node_limit k.vertices) same in
    node_item t c.args.b c.enter_circuit.ensures.sound.shape range.0 (omega (arith, range.1, limit))

module _ (g : Over) (c : goal.After-enter_scanned-arg-2-1 g) where
  abbrev f : Search
  f = c.args.search.now

  abbrev f1 : Search
  f1 = c.open_blossom.new.search

  abbrev k : Search
  k = c.drop_entry.new.search

  -- only the queue has changed
  only : k ≡ record f1 { queue = k.queue }
  only = only_queue f1 c.enter_circuit.new.search k c.enter_circuit.ensures.frame c.drop_entry.ensures.frame

  clock1 : f1.clock ≡ f.clock
  clock1 = ap (λ (y : Search). y.clock) c.open_blossom.ensures.frame

  blossom : (a : ℕ) → holds (names_of f1.arena.blossoms) a ≡ true → IsBlossomEntered (state_of f1) f.clock k.queue a
  blossom = c.open_blossom.ensures.opening.entered f.clock f.queue c.enter_circuit.new.search.queue k.queue
      (drop_entry-requires-clause-item g c.before.before.before) c.drop_entry.ensures.queue
      c.requires.event_times.blossoms
      (λ a on name. subst (λ z. IsBlossomEntered (state_of f1) z c.enter_circuit.new.search.queue a) clock1 (c.enter_circuit.ensures.entered.entered a (c.open_blossom.ensures.circuit a
      ∙ on) name))
      (λ a out. c.enter_circuit.ensures.entered.others a (c.open_blossom.ensures.circuit a ∙ out) ∙ ap (λ (y : Search). moment_of y.queue (OfBlossom a)) c.open_blossom.ensures.frame)

pub enter_scanned-requires-clause-event_times : goal.enter_scanned-requires-clause-event_times
enter_scanned-requires-clause-event_times g c =
    left_queued c.requires.sound
    (subst (λ (y : Search). Leaves (state_of c.args.search.now) (state_of y) y.scanned.items) (sym (only g c)) c.open_blossom.ensures.opening.leaves)
    (ap (λ (y : Search). y.clock) (only g c) ∙ clock1 g c) c.requires.event_times
    (ap (λ (q : Moments). q.edges) c.drop_entry.ensures.queue ∙ c.enter_circuit.ensures.edges ∙ ap (λ (y : Search). y.queue.edges) c.open_blossom.ensures.frame)
    (subst (λ (y : State). (a : ℕ) → holds (names_of y.blossoms) a ≡ true → IsBlossomEntered y c.args.search.now.clock c.drop_entry.new.search.queue a)
    (sym (ap state_of (only g c))) (blossom g c))
    (λ none. c.open_blossom.ensures.opening.tree (subst (λ (y : Search). HasNoTree (state_of y)) (only g c) none))

pub enter_scanned-requires-clause-vertices : goal.enter_scanned-requires-clause-vertices
enter_scanned-requires-clause-vertices g c =
    let f1 = c.open_blossom.new.search in
    subst (λ (f : Search). All (λ v. is_vertex c.args.graph.now.vertices v ≡ true) f.scanned.items) (sym (only g c))
    (subst (λ (d : Multigraph). All (λ v. is_vertex d.vertices v ≡ true) f1.scanned.items) (sym c.requires.same_graph) c.open_blossom.ensures.opening.vertices)

-- only the queue changes once the blossom is open
after : (g : Over) (c : goal.After-enter_scanned g) → c.enter_scanned.new.self ≡ record c.open_blossom.new.search { queue = c.enter_scanned.new.self.queue }
after g c = only_queue c.open_blossom.new.search c.drop_entry.new.search c.enter_scanned.new.self (only g c.before) c.enter_scanned.ensures.frame

pub returns : goal.returns
returns g c =
    let f = c.args.search.now in let f1 = c.open_blossom.new.search in let k = c.drop_entry.new.search in
    let new : Search = c.enter_scanned.new.self in let o = c.open_blossom.ensures in let now = after g c in
    let same = only g c.before in
    let is = now ∙ ap (λ (y : Search). let x : Search = record y { queue = new.queue } in x) o.frame in
    let left = subst (λ (y : Search). ends_looked (state_of y) f1.scanned.items + outside_ends (state_of y) + out_ends (state_of f) ≡ outside_ends (state_of f) + out_ends (state_of y))
    (sym now) o.opening.edge_ends in
    let looked : ends_looked (state_of k) k.scanned.items ≡ ends_looked (state_of new) f1.scanned.items =
    ap (λ (s : State). ends_looked s k.scanned.items) (sym (ap state_of c.enter_scanned.ensures.frame)) ∙ ap (λ (y : Search). ends_looked (state_of new) y.scanned.items) same in
    let noted = ap (λ (y : Search). y.scanned.items) same in
    let graph = ap (λ (d : Multigraph). ends_around d f1.scanned.items) c.requires.same_graph in
    record {
      expanded = subst (λ (y : Search). IsExpanded (state_of f) (state_of y) c.args.b) (sym now) o.expanded;
      frame = rw is refl;
      sound = c.enter_scanned.ensures.sound;
      event_times = c.enter_scanned.ensures.event_times;
      taken = ap (λ xs. entry xs c.args.b) c.enter_scanned.ensures.blossoms ∙ ap (λ (m : Moments). moment_of m (OfBlossom c.args.b)) c.drop_entry.ensures.queue
          ∙ blossom_set c.enter_circuit.new.search.queue c.args.b None (drop_entry-requires-clause-item g c.before.before.before.before);
      listed = subst HasTreeNodes (sym now) (tree_nodes_with f1 new.queue o.listed);
      trees = ap (λ (y : Search). tree_count (state_of y)) now ∙ o.opening.trees;
      exposed = ap (λ (y : Search). exposed_count (state_of y)) now ∙ o.opening.exposed;
      all_rooted = λ was. subst (λ (y : Search). IsPlanted (state_of y)) (sym now) (o.opening.all_rooted was);
      falls = subst (λ (y : Search). measure (state_of y) < measure (state_of f)) (sym now) o.opening.falls;
      inside = λ w is out. outside_before f.graph.vertices (state_of f) (state_of f1) w o.opening.outer is (ap (λ (y : Search). is_outside (state_of y) w) (sym now) ∙ out);
      blossoms = subst (λ (y : Search). outside_among (state_of y) y.arena.blossoms < outside_among (state_of f) f.arena.blossoms) (sym now) o.opening.blossoms;
      inspections = omega (
        arith,
        o.opening.ends,
        ap (λ xs. ends_around c.args.graph.now xs) noted,
        graph,
        c.enter_scanned.ensures.inspections,
        c.tick.ensures,
        ap (λ (y : Search). looks_left (state_of y)) now,
      );
      ends = omega (arith, c.enter_scanned.ensures.inspections, c.tick.ensures, ap (λ xs. ends_around c.args.graph.now xs) (noted ∙ o.scanned));
      edge_ends = omega (arith, left, looked, c.enter_scanned.ensures.edge_ends, c.tick.ensures);
      count = omega (
        arith,
        c.enter_scanned.ensures.count,
        c.tick.ensures,
        ap entered_among (ap (λ (q : Moments). q.edges) c.drop_entry.ensures.queue ∙ c.enter_circuit.ensures.edges ∙ ap (λ (y : Search). y.queue.edges) o.frame),
      );
    }
