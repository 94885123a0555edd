use Rattle.alt_forest.proofs.Common.{◌≡◌, ◌≢◌, ◌∙◌, ℕ, Bool, List, Some, refl, sym, ap, subst, Multigraph, outermost_parts, is_node, members_of, Out, State, IsOutermost}
use Rattle.alt_forest.proofs.Common.{CanGrow, state_of, label_at, AreListed, tree_id_at, root_of, mate_unique, outer_not_out}
use Rattle.alt_forest.specs.declared.search.Search.{Search}
use Rattle.tree_steps.specs.Grown.{grown}
use Rattle.tree_steps.specs.Moving.{IsMoving}
use Rattle.tree_steps.proofs.Grown.{Grows, grows, each_node, far_in, mate_in, others_now, far_root, mate_root, grow_root, grow_step}
use Rattle.tree_steps.proofs.Handed.{ComesFrom, tree_nodes_after}
use Rattle.tree_steps.proofs.growth.extend_tree.Goals as goal

pub insert_node-requires-clause-outermost : goal.insert_node-requires-clause-outermost
insert_node-requires-clause-outermost c = subst (λ (f : Search). IsOutermost (state_of f) c.take_in-far.result.0) (sym c.take_in-far.ensures.frame)
    (subst (IsOutermost (state_of c.args.search.now)) (sym (c.take_in-far.ensures.far c.requires.possible)) c.requires.possible.far_is)

pub insert_node-requires-2-clause-outermost : goal.insert_node-requires-2-clause-outermost
insert_node-requires-2-clause-outermost c = subst (λ (f : Search). IsOutermost (state_of f) c.take_in-far.result.1) (sym c.insert_node.ensures.frame)
    (subst (λ (f : Search). IsOutermost (state_of f) c.take_in-far.result.1) (sym c.take_in-far.ensures.frame) (c.take_in-far.ensures.mate c.requires.possible).outermost)

pub scan_node-requires-clause-node : goal.scan_node-requires-clause-node
scan_node-requires-clause-node c =
    let f = c.args.search.now in
    let node : Search → Bool = λ y. is_node y.graph.vertices y.arena.blossoms c.take_in-far.result.1 in
    ap node c.insert_node-2.ensures.frame ∙ ap node c.insert_node.ensures.frame ∙ ap node c.take_in-far.ensures.frame
    ∙ (outermost_parts f.graph.vertices f.arena.blossoms c.take_in-far.result.1 (c.take_in-far.ensures.mate c.requires.possible).outermost).0

module _ (c : goal.After-scan_node) where
  abbrev f : Search
  f = c.args.search.now

  abbrev f1 : Search
  f1 = c.take_in-far.new.search

  abbrev f3 : Search
  f3 = c.insert_node-2.new.search

  abbrev k : Search
  k = c.scan_node.new.search

  abbrev can : CanGrow (state_of f) c.args.e
  can = c.requires.possible

  abbrev mate : ℕ
  mate = c.take_in-far.result.1

  abbrev t : State
  t = grown (state_of f) c.args.e can.far mate

  h : Grows (state_of f) c.requires.sound.depth c.args.e mate can
  h = grows f c.args.e mate c.requires.sound can (c.take_in-far.ensures.mate can)

  -- the two are in the tree now
  label1 : (a : ℕ) → label_at f1.labels.items a ≡ t.label a
  label1 a = ap (λ (y : State). y.label a) (c.take_in-far.ensures.grown can)

  far_out : label_at f1.labels.items c.take_in-far.result.0 ≢ Out
  far_out out = far_in h (sym (label1 can.far) ∙ ap (label_at f1.labels.items) (sym (c.take_in-far.ensures.far can)) ∙ out)

  mate_out : label_at c.insert_node.new.search.labels.items mate ≢ Out
  mate_out out = mate_in h (sym (label1 mate) ∙ ap (λ (y : Search). label_at y.labels.items mate) (sym c.insert_node.ensures.frame) ∙ out)

  state : state_of k ≡ t
  state = ap state_of c.scan_node.ensures.frame ∙ ap state_of c.insert_node-2.ensures.frame ∙ ap state_of c.insert_node.ensures.frame ∙ c.take_in-far.ensures.grown can

  scanned : k.scanned.items ≡ members_of f.arena.blossoms mate
  scanned =
      let at : Search → List ℕ = λ y. members_of y.arena.blossoms mate in
      c.scan_node.ensures.scanned ∙ ap at c.insert_node-2.ensures.frame ∙ ap at c.insert_node.ensures.frame ∙ ap at c.take_in-far.ensures.frame

  graph2 : c.insert_node.new.search.graph ≡ f.graph
  graph2 = ap (λ (y : Search). y.graph) c.insert_node.ensures.frame ∙ ap (λ (y : Search). y.graph) c.take_in-far.ensures.frame

  abbrev Comes : ℕ → Type 0
  Comes a = IsOutermost t a → t.label a ≢ Out → ComesFrom (state_of f) t (λ r. r) f.tree_nodes.tree_ids k.tree_nodes.tree_ids a

  read : (a : ℕ) → tree_id_at k.tree_nodes.tree_ids a ≡ tree_id_at f3.tree_nodes.tree_ids a
  read a = ap (λ (y : Search). tree_id_at y.tree_nodes.tree_ids a) c.scan_node.ensures.frame

  -- they have the tree id of the node that they hang under, and all others their own
  hangs : (a : ℕ) → root_of t a ≡ root_of (state_of f) can.near → tree_id_at f3.tree_nodes.tree_ids a ≡ Some c.near_tree_id-tree_id.result → Comes a
  hangs a root has is labelled = record {
    from = can.near;
    outermost = can.near_is;
    in_tree = λ out. outer_not_out (sym can.near_outer ∙ out);
    root = root;
    tree_id = read a ∙ has ∙ sym (c.near_tree_id-tree_id.ensures.kept can);
  }

  comes : (a : ℕ) → Comes a
  comes = each_node h Comes
      (hangs can.far (far_root h) (c.insert_node-2.ensures.keeps can.far h.pair.different
      ∙ subst (λ a. tree_id_at c.insert_node.new.search.tree_nodes.tree_ids a ≡ Some c.near_tree_id-tree_id.result) (c.take_in-far.ensures.far can) (c.insert_node.ensures.in_tree far_out)))
      (hangs mate (mate_root h) (c.insert_node-2.ensures.in_tree mate_out))
      (λ a no_far no_mate is labelled. let r = grow_root h a is labelled no_far no_mate in record {
        from = a;
        outermost = is;
        in_tree = r.0;
        root = r.1;
        tree_id = read a ∙ c.insert_node-2.ensures.keeps a no_mate ∙ c.insert_node.ensures.keeps a (λ at. no_far (at ∙ c.take_in-far.ensures.far can))
            ∙ ap (λ (y : Search). tree_id_at y.tree_nodes.tree_ids a) c.take_in-far.ensures.frame;
      })

  -- each outermost node moves as its label says
  moving : (a : ℕ) → IsOutermost t a → IsMoving f3 a
  moving = each_node h (λ a. IsOutermost t a → IsMoving f3 a)
      (λ is. c.insert_node-2.ensures.keeps_moving can.far (subst (IsMoving c.insert_node.new.search) (c.take_in-far.ensures.far can) (c.insert_node.ensures.moves far_out)))
      (λ is. c.insert_node-2.ensures.moves mate_out)
      (λ a no_far no_mate is. c.insert_node-2.ensures.keeps_moving a (c.insert_node.ensures.keeps_moving a (ap (λ (y : Search). label_at y.arena.motions a) c.take_in-far.ensures.frame
      ∙ c.requires.listed.moves a is ∙ sym (label1 a ∙ others_now h a no_far no_mate))))

pub returns-clause-mate : goal.returns-clause-mate
returns-clause-mate c = λ can. (c.take_in-far.result.1, c.take_in-far.ensures.mate can, scanned c)

pub returns-clause-grown : goal.returns-clause-grown
returns-clause-grown c = λ can m pair.
    ap state_of c.scan_node.ensures.frame ∙ ap state_of c.insert_node-2.ensures.frame ∙ ap state_of c.insert_node.ensures.frame ∙ c.take_in-far.ensures.grown can
    ∙ ap (grown (state_of c.args.search.now) c.args.e can.far)
    (mate_unique (state_of c.args.search.now) can.far can.mate_edge c.take_in-far.result.1 can.mate_edge m can.has_mate can.has_mate (c.take_in-far.ensures.mate can) pair)

pub returns-clause-listed : goal.returns-clause-listed
returns-clause-listed c =
    tree_nodes_after (f c) (k c) (t c) (λ r. r) c.requires.sound (record { graph = refl; vertex = λ v is root. refl; apart = λ r q r_is q_is one. one })
    c.requires.listed (comes c) (state c)
    (ap (λ (y : Search). y.graph) c.scan_node.ensures.frame ∙ ap (λ (y : Search). y.graph) c.insert_node-2.ensures.frame ∙ graph2 c)
    (subst (λ (y : Search). AreListed (f c).graph.vertices y.tree_nodes.nodes y.tree_nodes.tree_ids) (sym c.scan_node.ensures.frame)
    (subst (λ (g : Multigraph). AreListed g.vertices (f3 c).tree_nodes.nodes (f3 c).tree_nodes.tree_ids) (graph2 c) c.insert_node-2.ensures.listed))
    (λ a is. ap (λ (y : Search). label_at y.arena.motions a) c.scan_node.ensures.frame ∙ moving c a is
    ∙ ap (λ (y : Search). label_at y.labels.items a) c.insert_node-2.ensures.frame ∙ ap (λ (y : Search). label_at y.labels.items a) c.insert_node.ensures.frame ∙ label1 c a)

pub returns-clause-step : goal.returns-clause-step
returns-clause-step c = grow_step (h c) (state_of (k c)) (k c).scanned.items (state c) (scanned c)
