-- Outer and inner nodes, and the pairs that mates make of them.
use Rattle.graph_theory.proofs.Common.{◌≡◌, ℕ, ◌+◌, ◌<◌, ◌≤◌, true, false, eqb, None, List, ◌∷◌, length, map, Some, refl, sym, ap, ◌∙◌, subst, arith}
use Rattle.graph_theory.proofs.Common.{⊎_elim, inl, inr, filter, both_ways, eqb-true, and_parts, and_from, or_cases, false_from_ne_true, length-map, holds, member-mapped as holds-map}
use Rattle.blossom_arena.specs.Family.{IsNested}
use Rattle.blossom_arena.proofs.Lists.{AllNew, holds-filter, new-filter, length-within}
use Rattle.blossom_arena.proofs.Nested.{outer_nodes, holds-outer_nodes, new-outer_nodes}
use Rattle.blossom_arena.specs.declared.label.Label.{Label}
use Rattle.blossom_arena.specs.declared.label.Label.TheVariants.{Outer, Inner, Out}
use Rattle.alt_forest.specs.State.{State, IsOutermost, IsMate, IsSearchState}
use Rattle.alt_forest.specs.Trees.{IsRoot, far_end, is_label}
use Rattle.alt_forest.proofs.Relabelled.{some_not_none}
use Rattle.alt_forest.proofs.Walk.{other_node_joins}
use Rattle.alt_forest.proofs.Ascending.{new-map}

-- the label of a test that passes
pub is_inner : (l : Label) → is_label l Inner ≡ true → l ≡ Inner
is_inner Outer e = absurd (both_ways false refl e)
is_inner Inner e = refl
is_inner Out e = absurd (both_ways false refl e)

pub is_outer : (l : Label) → is_label l Outer ≡ true → l ≡ Outer
is_outer Outer e = refl
is_outer Inner e = absurd (both_ways false refl e)
is_outer Out e = absurd (both_ways false refl e)

-- the outermost nodes of a label
abbrev pub nodes_labelled : State → Label → List ℕ
nodes_labelled s l = filter (λ a. is_label (s.label a) l) (outer_nodes s.graph.vertices s.blossoms)

module _ (s : State) (nested : IsNested s.graph.vertices s.blossoms) where
  -- whether an outermost node has a label
  pub in_labelled : (l : Label) (a : ℕ) → holds (nodes_labelled s l) a ≡ true → IsOutermost s a × (is_label (s.label a) l ≡ true)
  in_labelled l a h =
      let p = and_parts (holds (outer_nodes s.graph.vertices s.blossoms) a) (is_label (s.label a) l)
      (sym (holds-filter (λ x. is_label (s.label x) l) (outer_nodes s.graph.vertices s.blossoms) a) ∙ h) in
      (sym (holds-outer_nodes s.graph.vertices s.blossoms a nested) ∙ p.0, p.1)

  pub of_labelled : (l : Label) (a : ℕ) → IsOutermost s a → is_label (s.label a) l ≡ true → holds (nodes_labelled s l) a ≡ true
  of_labelled l a is lab =
      holds-filter (λ x. is_label (s.label x) l) (outer_nodes s.graph.vertices s.blossoms) a
      ∙ and_from (holds (outer_nodes s.graph.vertices s.blossoms) a) (is_label (s.label a) l) (holds-outer_nodes s.graph.vertices s.blossoms a nested ∙ is) lab

  pub new_labelled : (l : Label) → AllNew (nodes_labelled s l)
  new_labelled l = new-filter (λ x. is_label (s.label x) l) (outer_nodes s.graph.vertices s.blossoms) (new-outer_nodes s.graph.vertices s.blossoms nested)

-- the node at the other end of a node's mate
module _ (s : State) where
  abbrev pub mate_node : ℕ → ℕ
  mate_node a = far_end s (s.mate a) a

  -- the mate of a node's mate is the node
  pub turned_mate : (a e b : ℕ) → IsMate s a e b → mate_node b ≡ a
  turned_mate a e b m = ap (λ o. far_end s o b) m.back ∙ other_node_joins s.graph s.blossoms e b a (⊎_elim (λ p. inr p) (λ p. inl p) m.joins) (λ q. m.different (sym q))

  pub mates_differ : (a b e f : ℕ) → IsMate s a e (mate_node a) → IsMate s b f (mate_node b) → mate_node a ≡ mate_node b → a ≡ b
  mates_differ a b e f x y same = sym (turned_mate a e (mate_node a) x) ∙ ap mate_node same ∙ turned_mate b f (mate_node b) y

-- Some nodes have their own mates among others, where one is that has no mate: so there is one more of these.
module _ (s : State) (root : ℕ) (free : s.mate root ≡ None) (inns outs : List ℕ) (new : AllNew inns) (there : holds outs root ≡ true)
    (each : (a : ℕ) → holds inns a ≡ true → (e : ℕ) × (IsMate s a e (mate_node s a) × (holds outs (mate_node s a) ≡ true))) where
  pub paired_new : AllNew (root ∷ map (mate_node s) inns)
  paired_new = (
    false_from_ne_true (holds (map (mate_node s) inns) root) (λ m.
        let p = holds-map (mate_node s) inns root m in let c = each p.0 p.1 in
        some_not_none c.0 (sym (sym free ∙ ap s.mate (sym p.2) ∙ c.1.0.back))),
    new-map (mate_node s) inns new (λ a b ha hb same. mates_differ s a b (each a ha).0 (each b hb).0 (each a ha).1.0 (each b hb).1.0 same),
  )

  pub paired_within : (x : ℕ) → holds (root ∷ map (mate_node s) inns) x ≡ true → holds outs x ≡ true
  paired_within x m = ⊎_elim
      (λ here. subst (λ y. holds outs y ≡ true) (eqb-true root x here) there)
      (λ more. let p = holds-map (mate_node s) inns x more in subst (λ y. holds outs y ≡ true) p.2 (each p.0 p.1).1.1)
      (or_cases (eqb root x) (holds (map (mate_node s) inns) x) m)

  pub paired_fewer : length inns + 1 ≤ length outs
  paired_fewer = omega (arith, length-within (root ∷ map (mate_node s) inns) outs paired_new paired_within, length-map inns (mate_node s))

-- each inner node has its own outer mate, and the root is one more
module _ (s : State) (nested : IsNested s.graph.vertices s.blossoms) (depth : ℕ → ℕ) (st : IsSearchState s depth) where
  pub record HasChild (a : ℕ) : Type 0 where
    pub edge : ℕ
    pub mate : IsMate s a edge (mate_node s a)
    pub outer : s.label (mate_node s a) ≡ Outer

  pub child_of : (a : ℕ) → IsOutermost s a → s.label a ≡ Inner → HasChild a
  child_of a is lab =
      let i = (st.labels a is).inner lab in
      let at : mate_node s a ≡ i.child = ap (λ o. far_end s o a) i.mate ∙ other_node_joins s.graph s.blossoms i.child_edge a i.child i.is_mate.joins i.is_mate.different in
      record { edge = i.child_edge; mate = subst (IsMate s a i.child_edge) (sym at) i.is_mate; outer = ap s.label at ∙ i.child_outer }

  pub child_is : (a : ℕ) → holds (nodes_labelled s Inner) a ≡ true → HasChild a
  child_is a h = let p = in_labelled s nested Inner a h in child_of a p.0 (is_inner (s.label a) p.1)

  -- an outer node that has a mate has an inner one
  pub mate_inner : (a e : ℕ) → IsOutermost s a → s.label a ≡ Outer → s.mate a ≡ Some e → IsMate s a e (mate_node s a) × (s.label (mate_node s a) ≡ Inner)
  mate_inner a e is lab has =
      let m = st.mates a e is has in
      let at : mate_node s a ≡ m.0 = ap (λ o. far_end s o a) has ∙ other_node_joins s.graph s.blossoms e a m.0 m.1.joins m.1.different in
      (subst (IsMate s a e) (sym at) m.1, ap s.label at ∙ ((st.labels a is).outer lab e m.0 has m.1).0)

  pub inner_fewer : (root : ℕ) → IsRoot s root → length (nodes_labelled s Inner) < length (nodes_labelled s Outer)
  inner_fewer root r = omega (
    arith,
    paired_fewer s root r.exposed (nodes_labelled s Inner) (nodes_labelled s Outer) (new_labelled s nested Inner)
        (of_labelled s nested Outer root r.outermost (ap (λ l. is_label l Outer) r.outer))
        (λ a h. let c = child_is a h in (c.edge, (c.mate, of_labelled s nested Outer (mate_node s a) c.mate.outermost (ap (λ l. is_label l Outer) c.outer)))),
  )
