-- Where a forest is stuck, each outer node is a component of what is left without the inner vertices, and there are
-- more of them than inner vertices.
use Rattle.alt_forest.proofs.Common.{◌≡◌, ◌≢◌, ◌⊎◌, ℕ, ◌≤◌, ◌%◌, true, false, ◌&&◌, not, eqb, List, [], ◌∷◌, length, map, slice_index, refl, sym, ap}
use Rattle.alt_forest.proofs.Common.{◌∙◌, subst, arith, ⊎_elim, inl, inr, nat_tests, both_ways, cases_eq, eq-eqb, and_parts, length-map, IsGraph, IsEdgeNumber, edge_of, holds}
use Rattle.alt_forest.proofs.Common.{AreTogether, IsBarrier, holds_first, together-sym, together-free, together-within, Link, IsNested, is_vertex, names_of, outermost, members_of}
use Rattle.alt_forest.proofs.Common.{length-within, outermost_parts, vertex_range, range_vertex, outermost_has, outer_member, outermost_by_member, member_vertex, members_new, members_odd}
use Rattle.alt_forest.proofs.Common.{members_some, members_of_vertex, u_vertex, v_vertex, Label, Outer, Inner, Out, State, IsOutermost, Joins, IsSearchState, IsRoot, is_label, one_class}
use Rattle.alt_forest.proofs.Common.{is_inner, is_outer, nodes_labelled, in_labelled, of_labelled, new_labelled, inner_fewer, holds-picked, picked_ascends, new_from_ascending, new-map}
use Rattle.alt_forest.proofs.Common.{member-mapped as holds-map}
use Rattle.dual_change.specs.Laws.{inner_vertices, StuckInnerAreVertices, StuckHasBarrier}
use Rattle.dual_change.proofs.Inside.{LiesWithin, rings_within, rings_with}
use Rattle.dual_change.proofs.Least.{HasNoBound, stuck_inner, stuck_none}
use Rattle.dual_change.proofs.Reps.{rep_edge, rep_related}
use Rattle.dual_change.proofs.Heads.{head_of, head_together, same_head, class_of, in_class, of_class, odd_heads, HeadsOdd, of_heads, counted}

-- an inner node that is no blossom is a vertex
no_blossom : (s : State) (a : ℕ) → IsOutermost s a → (holds (names_of s.blossoms) a ≡ true → ⊥) → is_vertex s.graph.vertices a ≡ true
no_blossom s a is none = grind (arith, nat_tests, none)

pub inner_vertex : StuckInnerAreVertices
inner_vertex s depth a graph nested st stuck is lab = no_blossom s a is (λ name. stuck_inner s depth graph nested st stuck a name is lab)

module _ (s : State) (depth : ℕ → ℕ) (graph : IsGraph s.graph) (nested : IsNested s.graph.vertices s.blossoms) where
  abbrev label_of : ℕ → Label
  label_of v = s.label (outermost s.blossoms v)

  abbrev removed : List ℕ
  removed = inner_vertices s

  -- the vertices that are removed
  pub removed_is : (v : ℕ) → is_vertex s.graph.vertices v ≡ true → holds removed v ≡ is_label (label_of v) Inner
  removed_is v iv = grind (arith, nat_tests, holds-picked s.graph.vertices (λ x. is_label (label_of x) Inner) v)

  pub outer_free : (v : ℕ) → is_vertex s.graph.vertices v ≡ true → label_of v ≡ Outer → holds removed v ≡ false
  outer_free v iv lab = removed_is v iv ∙ ap (λ l. is_label l Inner) lab

  free_not_inner : (v : ℕ) → is_vertex s.graph.vertices v ≡ true → holds removed v ≡ false → label_of v ≢ Inner
  free_not_inner v iv free lab = both_ways (holds removed v) free (removed_is v iv ∙ ap (λ l. is_label l Inner) lab)

  module _ (st : IsSearchState s depth) where
    -- the vertices of an outer node hang together
    abbrev Linked : ℕ → ℕ → Type 0
    Linked u v = (outermost s.blossoms u ≡ outermost s.blossoms v) × (label_of u ≡ Outer → head_of s.graph removed graph u ≡ head_of s.graph removed graph v)

    link : (l : Link) → LiesWithin s.graph s.blossoms l → Linked (edge_of s.graph l.edge).u (edge_of s.graph l.edge).v
    link l w = (
      w.one_node,
      λ lab. rep_edge s.graph (holds removed) l.edge w.edge (outer_free (edge_of s.graph l.edge).u (u_vertex s.graph l.edge graph.ends w.edge) lab)
          (outer_free (edge_of s.graph l.edge).v (v_vertex s.graph l.edge graph.ends w.edge) (ap s.label (sym w.one_node) ∙ lab)),
    )

    pub hangs_together : (u v : ℕ) → is_vertex s.graph.vertices u ≡ true → is_vertex s.graph.vertices v ≡ true → outermost s.blossoms u ≡ outermost s.blossoms v → Linked u v
    hangs_together =
        one_class s.graph Linked
        (λ u. (refl, λ _. refl))
        (λ u v p. (sym p.0, λ lab. sym (p.1 (ap s.label p.0 ∙ lab))))
        (λ u v w p q. (p.0 ∙ q.0, λ lab. p.1 lab ∙ q.1 (ap s.label (sym p.0) ∙ lab)))
        graph s.blossoms nested st.rings (let within = rings_within s.graph graph s.blossoms nested st.rings in rings_with (LiesWithin s.graph s.blossoms)
        (LiesWithin s.graph s.blossoms) (λ (l : Link). Linked (edge_of s.graph l.edge).u (edge_of s.graph l.edge).v) (λ l w _. link l w) s.blossoms within within)

  module _ (bound : HasNoBound s depth graph nested) where
    -- no edge outside the removed set leaves an outer node
    abbrev Alike : ℕ → ℕ → Type 0
    Alike u v = (label_of u ≡ Outer) ⊎ (label_of v ≡ Outer) → outermost s.blossoms u ≡ outermost s.blossoms v

    alike_edge : (e : ℕ) → IsEdgeNumber s.graph e → holds removed (edge_of s.graph e).u ≡ false → holds removed (edge_of s.graph e).v ≡ false
        → Alike (edge_of s.graph e).u (edge_of s.graph e).v
    alike_edge e is fu fv o =
        let u : ℕ = (edge_of s.graph e).u in let v : ℕ = (edge_of s.graph e).v in
        let in_u = free_not_inner u (u_vertex s.graph e graph.ends is) fu in
        let in_v = free_not_inner v (v_vertex s.graph e graph.ends is) fv in
        ⊎_elim
        (λ same. same)
        (λ ne. absurd (⊎_elim
        (λ lu. leaves_none (outermost s.blossoms u) (outermost s.blossoms v) (inl (refl, refl)) ne lu in_v (label_of v) refl)
        (λ lv. leaves_none (outermost s.blossoms v) (outermost s.blossoms u) (inr (refl, refl)) (λ q. ne (sym q)) lv in_u (label_of u) refl)
        o))
        (cases_eq (outermost s.blossoms u) (outermost s.blossoms v))
      where
        leaves_none : (a b : ℕ) → Joins s.graph s.blossoms e a b → a ≢ b → s.label a ≡ Outer → s.label b ≢ Inner → (l : Label) → s.label b ≡ l → ⊥
        leaves_none a b j ne la nb Outer lb = bound.between e a b is j ne la lb
        leaves_none a b j ne la nb Out lb = bound.to_out e a b is j la lb
        leaves_none a b j ne la nb Inner lb = nb lb

    alike : (v : ℕ) → Alike (head_of s.graph removed graph v) v
    alike = rep_related s.graph (holds removed) Alike
        (λ u _. refl)
        (λ u v p o. grind (arith, p))
        (λ u v w p q o. grind (arith, p, q, ap s.label))
        alike_edge

    -- vertices with one head, one of them in an outer node, have one node
    pub same_node : (v w : ℕ) → label_of v ≡ Outer → head_of s.graph removed graph v ≡ head_of s.graph removed graph w → outermost s.blossoms v ≡ outermost s.blossoms w
    same_node v w lab same =
        let left : outermost s.blossoms (head_of s.graph removed graph v) ≡ outermost s.blossoms v = alike v (inr lab) in
        let over : outermost s.blossoms (head_of s.graph removed graph v) ≡ outermost s.blossoms (head_of s.graph removed graph w) = ap (outermost s.blossoms) same in
        sym left ∙ over ∙ alike w (inl (ap s.label (sym over ∙ left) ∙ lab))

    -- a vertex of each node
    abbrev pub first_of : ℕ → ℕ
    first_of a = slice_index (members_of s.blossoms a) 0

    pub first_vertex : (a : ℕ) → IsOutermost s a → (is_vertex s.graph.vertices (first_of a) ≡ true) × (outermost s.blossoms (first_of a) ≡ a)
    first_vertex a is =
        let node = (outermost_parts s.graph.vertices s.blossoms a is).0 in
        let here : holds (members_of s.blossoms a) (first_of a) ≡ true = holds_first (members_of s.blossoms a) (omega (arith, members_some s.graph.vertices s.blossoms a nested node)) in
        (member_vertex s.graph.vertices s.blossoms a (first_of a) nested node here, outermost_by_member s.graph.vertices s.blossoms a (first_of a) nested is here)

    abbrev pub node_head : ℕ → ℕ
    node_head a = head_of s.graph removed graph (first_of a)

    module _ (st : IsSearchState s depth) where
      -- an outer node is a component of odd size
      node_size : (a : ℕ) → IsOutermost s a → s.label a ≡ Outer → length (class_of s.graph removed graph (node_head a)) ≡ length (members_of s.blossoms a)
      node_size a is lab =
          let node = (outermost_parts s.graph.vertices s.blossoms a is).0 in let v : ℕ = first_of a in
          let first = first_vertex a is in let lv : label_of v ≡ Outer = ap s.label first.1 ∙ lab in
          let ring : List ℕ = class_of s.graph removed graph (node_head a) in
          let most : length ring ≤ length (members_of s.blossoms a) = length-within ring (members_of s.blossoms a)
          (new_from_ascending ring (picked_ascends s.graph.vertices (λ w. not (holds removed w) && eqb (head_of s.graph removed graph w) (node_head a))))
          (λ w h. let c = in_class s.graph removed graph (node_head a) w h in
          outer_member s.graph.vertices s.blossoms w nested c.vertex a is ∙ eq-eqb a (outermost s.blossoms w) (sym first.1 ∙ same_node v w lv (sym c.head))) in
          let fewest : length (members_of s.blossoms a) ≤ length ring = length-within (members_of s.blossoms a) ring
          (members_new s.graph.vertices s.blossoms a nested node)
          (λ w h.
          let iw = member_vertex s.graph.vertices s.blossoms a w nested node h in
          let at = outermost_by_member s.graph.vertices s.blossoms a w nested is h in
          of_class s.graph removed graph (node_head a) w (record {
            vertex = iw;
            free = outer_free w iw (ap s.label at ∙ lab);
            head = sym ((hangs_together st v w first.0 iw (first.1 ∙ sym at)).1 lv);
          })) in
          omega (arith, most, fewest)

      pub node_heads : (a : ℕ) → IsOutermost s a → s.label a ≡ Outer → HeadsOdd s.graph removed graph (node_head a)
      node_heads a is lab =
          let node = (outermost_parts s.graph.vertices s.blossoms a is).0 in let v : ℕ = first_of a in
          let first = first_vertex a is in let lv : label_of v ≡ Outer = ap s.label first.1 ∙ lab in
          let free = outer_free v first.0 lv in
          let there : AreTogether s.graph removed v (node_head a) = together-sym s.graph removed (node_head a) v graph.ends (head_together s.graph removed graph v free) in
          let range = together-within s.graph removed v (node_head a) graph.ends (vertex_range s.graph.vertices v first.0) there in
          record {
            vertex = range_vertex s.graph.vertices (node_head a) range.0 range.1;
            free = together-free s.graph removed v (node_head a) there;
            own = same_head s.graph removed graph v (node_head a) there;
            odd = ap (λ k. k % 2) (node_size a is lab) ∙ members_odd s.graph.vertices s.blossoms a nested node;
          }

      -- as many heads at least as outer nodes
      outer_few : length (nodes_labelled s Outer) ≤ length (odd_heads s.graph removed graph)
      outer_few =
          let outs : List ℕ = nodes_labelled s Outer in
          let few : length (map node_head outs) ≤ length (odd_heads s.graph removed graph) = length-within (map node_head outs) (odd_heads s.graph removed graph)
          (new-map node_head outs (new_labelled s nested Outer) (λ a b ha hb same.
          let pa = in_labelled s nested Outer a ha in let pb = in_labelled s nested Outer b hb in
          let fa = first_vertex a pa.0 in let fb = first_vertex b pb.0 in
          sym fa.1 ∙ same_node (first_of a) (first_of b) (ap s.label fa.1 ∙ is_outer (s.label a) pa.1) same ∙ fb.1))
          (λ h m.
          let p = holds-map node_head outs h m in let q = in_labelled s nested Outer p.0 p.1 in
          subst (λ x. holds (odd_heads s.graph removed graph) x ≡ true) p.2 (of_heads s.graph removed graph (node_head p.0) (node_heads p.0 q.0 (is_outer (s.label p.0) q.1)))) in
          omega (arith, few, length-map outs node_head)

      -- as many inner nodes at least as removed vertices
      pub removed_few : length removed ≤ length (nodes_labelled s Inner)
      removed_few = length-within removed (nodes_labelled s Inner)
          (new_from_ascending removed (picked_ascends s.graph.vertices (λ x. is_label (label_of x) Inner)))
          (λ v m.
          let p = and_parts (is_vertex s.graph.vertices v) (is_label (label_of v) Inner) (sym (holds-picked s.graph.vertices (λ x. is_label (label_of x) Inner) v) ∙ m) in
          let a : ℕ = outermost s.blossoms v in
          let has = outermost_has s.graph.vertices s.blossoms v nested p.0 in
          let lab : s.label a ≡ Inner = is_inner (s.label a) p.1 in
          let alone : members_of s.blossoms a ≡ a ∷ [] = members_of_vertex s.graph.vertices s.blossoms a nested (no_blossom s a has.0 (λ name. bound.inner a name has.0 lab)) in
          let same : a ≡ v = let there = sym (ap (λ ms. holds ms v) alone) ∙ has.1 in grind (arith, nat_tests) in
          subst (λ x. holds (nodes_labelled s Inner) x ≡ true) same (of_labelled s nested Inner a has.0 p.1))

      unbound_barrier : (root : ℕ) → IsRoot s root → IsBarrier s.graph removed
      unbound_barrier root r = (length (odd_heads s.graph removed graph), counted s.graph removed graph, omega (arith, removed_few, inner_fewer s nested depth st root r, outer_few))

pub barrier : StuckHasBarrier
barrier s depth root graph nested st planted r stuck = unbound_barrier s depth graph nested (stuck_none s depth graph nested st planted stuck) st root r
