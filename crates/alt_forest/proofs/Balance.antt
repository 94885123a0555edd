-- A tree has one outer node more than inner ones: mates pair its nodes but for the root.
use Rattle.graph_theory.proofs.Common.{◌≡◌, ℕ, ◌+◌, ◌≤◌, Bool, true, ◌&&◌, eqb, List, ◌∷◌, length, map, Option, Some, None, refl, sym, ap, ◌∙◌, subst}
use Rattle.graph_theory.proofs.Common.{arith, filter, range_with_len, eqb-true, eq-eqb, and_parts, and_from, or_left, or_right, length-map, holds, mapped-member as map-holds}
use Rattle.blossom_arena.specs.Family.{IsNested, is_outermost, is_vertex}
use Rattle.blossom_arena.proofs.Lists.{AllNew, length-within}
use Rattle.blossom_arena.proofs.Nested.{outermost_parts, node_range, range_vertex}
use Rattle.blossom_arena.specs.declared.label.Label.{Label}
use Rattle.blossom_arena.specs.declared.label.Label.TheVariants.{Outer, Inner}
use Rattle.alt_forest.specs.State.{State, IsOutermost, IsMate, IsSearchState}
use Rattle.alt_forest.specs.Trees.{IsRoot, far_end, up_edge_by, up_of, root_of, is_label, node_limit}
use Rattle.alt_forest.specs.Laws.{TreesBalance}
use Rattle.alt_forest.proofs.Roots.{root_self, root_up}
use Rattle.alt_forest.proofs.Ascending.{holds-picked, picked_ascends, new_from_ascending}
use Rattle.alt_forest.proofs.Pairs.{is_inner, is_outer, mate_node, turned_mate, child_of, mate_inner, paired_fewer}

module _ (s : State) (depth : ℕ → ℕ) (root : ℕ) (nested : IsNested s.graph.vertices s.blossoms) (st : IsSearchState s depth) (r : IsRoot s root) where
  -- the nodes of the tree that have a label
  abbrev in_tree : Label → ℕ → Bool
  in_tree l a = is_outermost s.graph.vertices s.blossoms a && (is_label (s.label a) l && eqb (root_of s a) root)

  abbrev tree_nodes : Label → List ℕ
  tree_nodes l = filter (in_tree l) (range_with_len 1 (node_limit s.graph.vertices))

  record IsInTree (l : Label) (a : ℕ) : Type 0 where
    outermost : IsOutermost s a
    label : is_label (s.label a) l ≡ true
    same_root : root_of s a ≡ root

  of_nodes : (l : Label) (a : ℕ) → holds (tree_nodes l) a ≡ true → IsInTree l a
  of_nodes l a h =
      let p = and_parts (is_vertex (node_limit s.graph.vertices) a) (in_tree l a) (sym (holds-picked (node_limit s.graph.vertices) (in_tree l) a) ∙ h) in
      let q = and_parts (is_outermost s.graph.vertices s.blossoms a) (is_label (s.label a) l && eqb (root_of s a) root) p.1 in
      let t = and_parts (is_label (s.label a) l) (eqb (root_of s a) root) q.1 in
      record { outermost = q.0; label = t.0; same_root = eqb-true (root_of s a) root t.1 }

  in_nodes : (l : Label) (a : ℕ) → IsInTree l a → holds (tree_nodes l) a ≡ true
  in_nodes l a h =
      let range = node_range s.graph.vertices s.blossoms a nested (outermost_parts s.graph.vertices s.blossoms a h.outermost).0 in
      holds-picked (node_limit s.graph.vertices) (in_tree l) a
      ∙ and_from (is_vertex (node_limit s.graph.vertices) a) (in_tree l a) (range_vertex (node_limit s.graph.vertices) a range.0 range.1)
      (and_from (is_outermost s.graph.vertices s.blossoms a) (is_label (s.label a) l && eqb (root_of s a) root) h.outermost
      (and_from (is_label (s.label a) l) (eqb (root_of s a) root) h.label (eq-eqb (root_of s a) root h.same_root)))

  different : (l : Label) → AllNew (tree_nodes l)
  different l = new_from_ascending (tree_nodes l) (picked_ascends (node_limit s.graph.vertices) (in_tree l))

  -- the way up from an outer node leads first to its mate
  outer_up : (a : ℕ) → s.label a ≡ Outer → up_of s a ≡ mate_node s a
  outer_up a lab = ap (λ l. far_end s (up_edge_by s l a) a) lab

  -- an inner node has its child below it, which is its mate
  pair : (a : ℕ) → holds (tree_nodes Inner) a ≡ true → (e : ℕ) × (IsMate s a e (mate_node s a) × (holds (tree_nodes Outer) (mate_node s a) ≡ true))
  pair a h =
      let t = of_nodes Inner a h in let c = child_of s nested depth st a t.outermost (is_inner (s.label a) t.label) in
      let b : ℕ = mate_node s a in
      let up = root_up s depth nested st b a c.mate.outermost t.outermost (outer_up b c.outer ∙ turned_mate s a c.edge b c.mate) in
      (c.edge, (c.mate, in_nodes Outer b (record { outermost = c.mate.outermost; label = ap (λ l. is_label l Outer) c.outer; same_root = up ∙ t.same_root })))

  root_node : holds (tree_nodes Outer) root ≡ true
  root_node = in_nodes Outer root (record { outermost = r.outermost; label = ap (λ l. is_label l Outer) r.outer; same_root = root_self s depth nested st root r })

  -- the root, and the children of inner nodes
  abbrev paired : List ℕ
  paired = root ∷ map (mate_node s) (tree_nodes Inner)

  outer_paired : (x : ℕ) → holds (tree_nodes Outer) x ≡ true → holds paired x ≡ true
  outer_paired x m = by_mate (s.mate x) refl
    where
      by_mate : (o : Option ℕ) → s.mate x ≡ o → holds paired x ≡ true
      by_mate None none =
          let t = of_nodes Outer x m in
          let own : root_of s x ≡ x = root_self s depth nested st x (record { outermost = t.outermost; outer = is_outer (s.label x) t.label; exposed = none }) in
          or_left (eqb root x) (holds (map (mate_node s) (tree_nodes Inner)) x) (eq-eqb root x (sym t.same_root ∙ own))
      by_mate (Some e) has =
          let t = of_nodes Outer x m in let lab = is_outer (s.label x) t.label in
          let c = mate_inner s nested depth st x e t.outermost lab has in let b : ℕ = mate_node s x in
          let up : root_of s x ≡ root_of s b = root_up s depth nested st x b t.outermost c.0.outermost (outer_up x lab) in
          let inner : holds (tree_nodes Inner) b ≡ true =
          in_nodes Inner b (record { outermost = c.0.outermost; label = ap (λ l. is_label l Inner) c.1; same_root = sym up ∙ t.same_root }) in
          or_right (eqb root x) (holds (map (mate_node s) (tree_nodes Inner)) x)
          (subst (λ y. holds (map (mate_node s) (tree_nodes Inner)) y ≡ true) (turned_mate s x e b c.0) (map-holds (mate_node s) (tree_nodes Inner) b inner))

  balanced : length (tree_nodes Outer) ≡ length (tree_nodes Inner) + 1
  balanced =
      let few = paired_fewer s root r.exposed (tree_nodes Inner) (tree_nodes Outer) (different Inner) root_node pair in
      let many : length (tree_nodes Outer) ≤ length paired = length-within (tree_nodes Outer) paired (different Outer) outer_paired in
      omega (arith, few, many, length-map (tree_nodes Inner) (mate_node s))

pub trees_balance : TreesBalance
trees_balance s depth root nested st r = balanced s depth root nested st r
