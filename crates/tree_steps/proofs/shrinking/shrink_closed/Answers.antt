use Rattle.alt_forest.proofs.Common.{◌≡◌, ◌≢◌, ◌∙◌, ◌||◌, ℕ, Bool, true, cond, List, refl, sym, ap, ap₂, subst, ⊎_elim, eq-eqb, Multigraph, edge_of, Link, Out}
use Rattle.alt_forest.proofs.Common.{in_ring, made_of, outermost, ring_of, u_vertex, v_vertex, State, IsOutermost, node_u, node_v, touches_any, state_of, label_at, AreListed, tree_id_at}
use Rattle.alt_forest.proofs.Common.{root_of, nested_of, outer_not_out, put_here}
use Rattle.alt_forest.specs.declared.search.Search.{Search}
use Rattle.tree_steps.specs.Circuits.{base_of, closed_by}
use Rattle.tree_steps.specs.Moving.{IsMoving}
use Rattle.tree_steps.specs.Scanned.{newly_outer}
use Rattle.tree_steps.specs.Shrinkable.{AreInOneTree, IsShrunk}
use Rattle.tree_steps.specs.Shrunk.{shrunk_state}
use Rattle.tree_steps.proofs.Ends.{ends_of}
use Rattle.tree_steps.proofs.Handed.{ComesFrom, tree_nodes_after}
use Rattle.tree_steps.proofs.NewlyOuter.{newly_misses}
use Rattle.tree_steps.proofs.Shrunk.{Closing, closing, lift, node_in, new_outer, outer_before, outer_differs, label_else, shrink_holds, shrink_root, stands, stands_old, stood, base_is}
use Rattle.tree_steps.proofs.Shrunk.{shrink_roots_kept, shrink_step}
use Rattle.tree_steps.proofs.shrinking.shrink_closed.Goals as goal

-- the circuit is one node
abbrev shrunk : (c : goal.After-insert_node-arg-1) → IsShrunk (state_of c.args.search.now) (state_of c.close_by-node.new.search) c.close_by-node.result
shrunk c = let s : State = state_of c.args.search.now in
    record { ring = closed_by s c.args.e; base = base_of s c.args.e; possible = c.close_by-node.ensures.closes.possible; state = c.close_by-node.ensures.state }

pub insert_node-requires-clause-outermost : goal.insert_node-requires-clause-outermost
insert_node-requires-clause-outermost c =
    let f = c.args.search.now in let f1 = c.close_by-node.new.search in
    subst (λ (y : State). IsOutermost y c.close_by-node.result) (sym c.close_by-node.ensures.state)
    (new_outer (closing f f1 c.close_by-node.result c.requires.sound c.close_by-node.ensures.sound (shrunk c)))

module _ (c : goal.After-insert_node) where
  abbrev f : Search
  f = c.args.search.now

  abbrev f1 : Search
  f1 = c.close_by-node.new.search

  abbrev k : Search
  k = c.insert_node.new.search

  abbrev s : State
  s = state_of f

  abbrev node : ℕ
  node = c.close_by-node.result

  abbrev ring : List Link
  ring = closed_by s c.args.e

  abbrev base : ℕ
  base = base_of s c.args.e

  abbrev t : State
  t = shrunk_state s (made_of s.blossoms ring node) base

  h : Closing s c.close_by-node.ensures.closes.possible.depth ring node base
  h = closing f f1 node c.requires.sound c.close_by-node.ensures.sound (shrunk c.before)

  state : state_of k ≡ t
  state = ap state_of c.insert_node.ensures.frame ∙ c.close_by-node.ensures.state

  scanned : k.scanned.items ≡ newly_outer s ring
  scanned = ap (λ (y : Search). y.scanned.items) c.insert_node.ensures.frame ∙ c.close_by-node.ensures.scanned

  node_out : label_at f1.labels.items node ≢ Out
  node_out out = node_in h (sym (ap (λ (y : State). y.label node) c.close_by-node.ensures.state) ∙ out)

  -- the ends of the edge lie in outer nodes of one tree
  ends : AreInOneTree s (node_u s.graph s.blossoms c.args.e) (node_v s.graph s.blossoms c.args.e)
  ends = (ends_of s c.args.e _ _ c.requires.possible refl refl).0

  at_base : root_of s base ≡ root_of s (node_u s.graph s.blossoms c.args.e)
  at_base = c.close_by-node.ensures.closes.one_tree base c.close_by-node.ensures.closes.possible.shrinkable.base_in

  one : (a : ℕ) → in_ring ring a ≡ true → root_of s a ≡ root_of s base
  one a r = c.close_by-node.ensures.closes.one_tree a r ∙ sym at_base

  -- the new node has the tree id of its tree, and all others have theirs
  tree_ids : (a : ℕ) → IsOutermost t a → tree_id_at k.tree_nodes.tree_ids a ≡ tree_id_at f.tree_nodes.tree_ids (stands h one a)
  tree_ids a is = ⊎_elim
      (λ at. ap (tree_id_at k.tree_nodes.tree_ids) at ∙ c.insert_node.ensures.in_tree node_out ∙ sym c.tree_id_of-tree_id.ensures.kept
      ∙ c.requires.listed.same _ base ends.a_is (base_is h) (λ out. outer_not_out (sym ends.a_outer ∙ out)) (λ out. outer_not_out (sym (h.possible.base_outer) ∙ out)) (sym at_base)
      ∙ ap (tree_id_at f.tree_nodes.tree_ids) (sym (ap (stands h one) at ∙ put_here (λ x. x) node base))) (λ old. let ne = outer_differs h a old.0 in
      c.insert_node.ensures.keeps a ne ∙ ap (λ (y : Search). tree_id_at y.tree_nodes.tree_ids a) c.close_by-node.ensures.frame
      ∙ ap (tree_id_at f.tree_nodes.tree_ids) (sym (stands_old h one a ne)))
      (outer_before h a is)

  comes : (a : ℕ) → IsOutermost t a → t.label a ≢ Out → ComesFrom s t (lift h) f.tree_nodes.tree_ids k.tree_nodes.tree_ids a
  comes a is in_it =
      let x = stood h one a is in
      record { from = stands h one a; outermost = x.outermost; in_tree = λ out. in_it (x.label ∙ out); root = shrink_root h one a is in_it; tree_id = tree_ids a is }

  moving : (a : ℕ) → IsOutermost t a → IsMoving k a
  moving a is = ⊎_elim
      (λ at. subst (IsMoving k) (sym at) (c.insert_node.ensures.moves node_out))
      (λ old. let ne = outer_differs h a old.0 in
      c.insert_node.ensures.keeps_moving a (c.close_by-node.ensures.outside_unchanged a ne old.1 ∙ c.requires.listed.moves a old.0
      ∙ sym (ap (λ (y : State). y.label a) c.close_by-node.ensures.state ∙ label_else h a ne)))
      (outer_before h a is)

pub returns : goal.returns
returns c =
    let d = c.close_by-node.ensures in let shape = d.closes.possible.shrinkable in
    let edge = edge_of (f c).graph c.args.e in
    let misses = newly_misses (s c) (ring c) (nested_of (f c) c.requires.sound.shape) shape.circuit in
    let graph = ap (λ (y : Search). y.graph) d.frame in
    record {
      shrunk = record { ring = ring c; base = base c; possible = d.closes.possible; state = state c };
      circuit = ap (λ (y : State). ring_of y.blossoms (node c)) (state c) ∙ ap (λ q. cond q (ring c) (ring_of (s c).blossoms (node c))) (eq-eqb (node c) (node c) refl);
      holds_u = ap (λ (y : State). outermost y.blossoms edge.u) (state c)
          ∙ shrink_holds (h c) _ (u_vertex (f c).graph c.args.e (h c).graph.ends c.requires.possible.tight.edge) d.closes.u_on;
      holds_v = ap (λ (y : State). outermost y.blossoms edge.v) (state c)
          ∙ shrink_holds (h c) _ (v_vertex (f c).graph c.args.e (h c).graph.ends c.requires.possible.tight.edge) d.closes.v_on;
      missed = ap (λ vs. touches_any vs edge) (scanned c) ∙ ap₂ (λ (a b : Bool). a || b) (misses edge.u (ends c).a_outer) (misses edge.v (ends c).b_outer);
      frame = rw (c.insert_node.ensures.frame, d.frame) refl;
      sound = c.insert_node.ensures.sound;
      listed = tree_nodes_after (f c) (k c) (t c) (lift (h c)) c.requires.sound (shrink_roots_kept (h c) (one c)) c.requires.listed (comes c) (state c)
          (ap (λ (y : Search). y.graph) c.insert_node.ensures.frame ∙ graph)
          (subst (λ (g : Multigraph). AreListed g.vertices (k c).tree_nodes.nodes (k c).tree_nodes.tree_ids) graph c.insert_node.ensures.listed)
          (λ a is. moving c a is ∙ ap (λ (y : State). y.label a) (state c));
      step = shrink_step (h c) (state_of (k c)) (k c).scanned.items (state c) (scanned c);
    }
