use Rattle.alt_forest.proofs.Common.{◌≡◌, ◌≢◌, ◌∙◌, ℕ, Bool, not, refl, sym, ap, subst, and_right, Multigraph, in_ring, is_child, is_node, members_of, ring_of, Label}
use Rattle.alt_forest.proofs.Common.{Outer, Inner, Out, by_test, name_is_node, ring_child, State, IsOutermost, CanExpand, state_of, label_at, AreListed, tree_id_at, inner_not_out}
use Rattle.alt_forest.proofs.Common.{outer_not_out}
use Rattle.alt_forest.specs.declared.search.Search.{Search}
use Rattle.tree_steps.specs.Expanded.{IsExpanded, IsOpening, AreRootsOpened}
use Rattle.tree_steps.specs.Moving.{IsMoving}
use Rattle.tree_steps.proofs.Expanded.{IsOpen, can_open, is_open, same_open, opened_with, opening, from, from_on, from_off, from_is, from_in, not_gone, outer_before, child_outermost}
use Rattle.tree_steps.proofs.Expanded.{open_roots_kept}
use Rattle.tree_steps.proofs.Handed.{ComesFrom, tree_nodes_after}
use Rattle.tree_steps.proofs.expanding.open_blossom.Goals as goal

by_label : {P : Type 0} (l : Label) → (l ≡ Out → P) → (l ≢ Out → P) → P
by_label Outer is isnt = isnt outer_not_out
by_label Inner is isnt = isnt inner_not_out
by_label Out is isnt = is refl

pub scan_node-requires-clause-node : goal.scan_node-requires-clause-node
scan_node-requires-clause-node c = name_is_node c.args.search.now.graph.vertices c.args.search.now.arena.blossoms c.args.b c.requires.possible.blossom

pub lay_open-requires-clause-possible : goal.lay_open-requires-clause-possible
lay_open-requires-clause-possible c = subst (λ (f : Search). CanExpand (state_of f) c.args.b) (sym c.scan_node.ensures.frame) c.requires.possible

-- once the blossom is open
module _ (c : goal.After-insert_circuit-arg-1) where
  abbrev f : Search
  f = c.args.search.now

  abbrev f2 : Search
  f2 = c.lay_open.new.search

  abbrev s : State
  s = state_of f

  abbrev b : ℕ
  b = c.args.b

  -- what has been noted before doesn't matter
  laid : IsExpanded s (state_of f2) b × AreRootsOpened s (state_of f2) b × ((a : ℕ) → in_ring f2.circuit.items a ≡ in_ring (ring_of f.arena.blossoms b) a)
  laid = subst (λ (y : State). IsExpanded y (state_of f2) b × AreRootsOpened y (state_of f2) b × ((a : ℕ) → in_ring f2.circuit.items a ≡ in_ring (ring_of y.blossoms b) a))
      (ap state_of c.scan_node.ensures.frame) (c.lay_open.ensures.expanded, c.lay_open.ensures.roots, c.lay_open.ensures.circuit)

  abbrev t : State
  t = opened_with s b (state_of f2).label (state_of f2).parent (state_of f2).mate

  same : state_of f2 ≡ t
  same = same_open s (state_of f2) b laid.0

  o : IsOpen s c.requires.sound.depth b t.label t.parent t.mate
  o = is_open s (state_of f2) c.requires.sound.depth b (can_open f b c.requires.sound c.requires.possible) laid.0

pub insert_circuit-requires-clause-circuit : goal.insert_circuit-requires-clause-circuit
insert_circuit-requires-clause-circuit c = λ a on.
    subst (λ (y : State). IsOutermost y a) (sym (same c)) (child_outermost (o c).possible a (sym ((laid c).2 a) ∙ on))

module _ (c : goal.After-insert_circuit) where
  abbrev x : goal.After-insert_circuit-arg-1
  x = c.before

  abbrev k : Search
  k = c.insert_circuit.new.search

  abbrev ring : ℕ → Bool
  ring = in_ring (ring_of c.args.search.now.arena.blossoms c.args.b)

  -- the nodes of the circuit that came into the tree have the tree id of the blossom, and all others have theirs
  handed : (a : ℕ) → (t x).label a ≢ Out → tree_id_at k.tree_nodes.tree_ids a ≡ tree_id_at (f x).tree_nodes.tree_ids (from (o x) a)
  handed a labelled = by_test (ring a)
      (λ r. c.insert_circuit.ensures.in_tree a ((laid x).2 a ∙ r) labelled ∙ sym c.root_vertex-tree_id.ensures.kept ∙ ap (tree_id_at (f x).tree_nodes.tree_ids) (sym (from_on (o x) a r)))
      (λ r. c.insert_circuit.ensures.keeps a ((laid x).2 a ∙ r) ∙ ap (λ (y : Search). tree_id_at y.tree_nodes.tree_ids a) c.lay_open.ensures.frame
      ∙ ap (λ (y : Search). tree_id_at y.tree_nodes.tree_ids a) c.scan_node.ensures.frame ∙ ap (tree_id_at (f x).tree_nodes.tree_ids) (sym (from_off (o x) a r)))

  comes : (a : ℕ) → IsOutermost (t x) a → (t x).label a ≢ Out → ComesFrom (s x) (t x) (λ r. r) (f x).tree_nodes.tree_ids k.tree_nodes.tree_ids a
  comes a is labelled = record {
    from = from (o x) a;
    outermost = from_is (o x) a is;
    in_tree = from_in (o x) a labelled;
    root = subst (λ (y : State). AreRootsOpened (s x) y (b x)) (same x) (laid x).1 a is labelled;
    tree_id = handed a labelled;
  }

  moving : (a : ℕ) → IsOutermost (t x) a → IsMoving k a
  moving a outer =
      let stays : label_at (f2 x).arena.motions a ≡ label_at (f x).arena.motions a =
      c.lay_open.ensures.outside_unchanged a (not_gone (o x).possible a outer) ∙ ap (λ (y : Search). label_at y.arena.motions a) c.scan_node.ensures.frame in
      by_test (ring a)
      (λ r. by_label (label_at (f2 x).labels.items a)
      (λ out. c.insert_circuit.ensures.keeps_moving a (stays ∙ c.requires.sound.shape.family.motions.inside a
      (and_right (is_node (f x).arena.vertex_count (f x).arena.blossoms a) (not (is_child (f x).arena.blossoms a)) (ap not (ring_child (f x).arena.blossoms (b x) a r))) ∙ sym out))
      (λ labelled. c.insert_circuit.ensures.moves a ((laid x).2 a ∙ r) labelled))
      (λ r. c.insert_circuit.ensures.keeps_moving a (stays ∙ c.requires.listed.moves a (outer_before (o x).possible a outer r) ∙ sym ((o x).is.labels a r)))

  graph2 : (f2 x).graph ≡ (f x).graph
  graph2 = ap (λ (y : Search). y.graph) c.lay_open.ensures.frame ∙ ap (λ (y : Search). y.graph) c.scan_node.ensures.frame

  scanned : k.scanned.items ≡ members_of (f x).arena.blossoms (b x)
  scanned = ap (λ (y : Search). y.scanned.items) c.insert_circuit.ensures.frame ∙ ap (λ (y : Search). y.scanned.items) c.lay_open.ensures.frame ∙ c.scan_node.ensures.scanned

  state : state_of k ≡ t x
  state = ap state_of c.insert_circuit.ensures.frame ∙ same x

pub returns : goal.returns
returns c =
    let x = c.before in
    let circuit : (a : ℕ) → in_ring (k c).circuit.items a ≡ ring c a = λ a. ap (λ (y : Search). in_ring y.circuit.items a) c.insert_circuit.ensures.frame ∙ (laid x).2 a in
    record {
      expanded = subst (λ (y : State). IsExpanded (s x) y c.args.b) (sym (state c)) (o x).is;
      circuit = circuit;
      outer = λ a on. subst (λ (y : State). IsOutermost y a) (sym (state c)) (child_outermost (o x).possible a (sym (circuit a) ∙ on));
      scanned = scanned c;
      frame = rw (c.insert_circuit.ensures.frame, c.lay_open.ensures.frame, c.scan_node.ensures.frame) refl;
      sound = c.insert_circuit.ensures.sound;
      listed = tree_nodes_after (f x) (k c) (t x) (λ r. r) c.requires.sound (open_roots_kept (o x)) c.requires.listed (comes c) (state c)
          (ap (λ (y : Search). y.graph) c.insert_circuit.ensures.frame ∙ graph2 c)
          (subst (λ (g : Multigraph). AreListed g.vertices (k c).tree_nodes.nodes (k c).tree_nodes.tree_ids) (graph2 c) c.insert_circuit.ensures.listed)
          (λ a outer. moving c a outer ∙ ap (λ (y : Search). label_at y.labels.items a) c.insert_circuit.ensures.frame);
      opening = subst (IsOpening (s x) (state_of (k c)) c.args.b) (sym (scanned c))
          (subst (λ (y : State). IsOpening (s x) y c.args.b (members_of (f x).arena.blossoms c.args.b)) (sym (state c)) (opening (o x)));
    }
