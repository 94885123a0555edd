-- Where a forest is stuck the inner vertices are the neighbours of the outer ones (chapter 24).
use Rattle.alt_forest.proofs.Common.{◌≡◌, ◌∙◌, ℕ, Bool, true, false, ◌&&◌, eqb, refl, sym, ap, ⊎_elim, inl, inr, and_parts, both_ways, eqb-true, or_cases, IsEdgeNumber}
use Rattle.alt_forest.proofs.Common.{IsGraph, edge_of, touches, other_end, holds, edge_of_within, touched-within, IsNested, is_vertex, outermost, u_vertex, v_vertex, range_vertex}
use Rattle.alt_forest.proofs.Common.{outermost_has, members_of_vertex, Label, Outer, Inner, Out, State, Joins, IsSearchState, is_label, IsPlanted, holds-picked, is_inner, is_outer, LeadsTo}
use Rattle.alt_forest.proofs.Common.{leads, leads_joins, joins_turned}
use Rattle.dual_change.specs.Changes.{IsStuck}
use Rattle.dual_change.specs.Laws.{inner_vertices}
use Rattle.dual_change.proofs.Barrier.{inner_vertex}
use Rattle.dual_change.proofs.Least.{stuck_none}
use Rattle.gallai_theory.specs.Matchings.{IsBeside, IsBorder}
use Rattle.alt_forest.proofs.Leads.{leads_touch, leads_end}
use Rattle.mwpm_engine.specs.Solving.{labelled_vertices, outer_vertices}

-- a vertex is listed by the label of its outermost node
pub label_test : (s : State) (l : Label) (v : ℕ) → is_vertex s.graph.vertices v ≡ true
    → holds (labelled_vertices s l) v ≡ is_label (s.label (outermost s.blossoms v)) l
label_test s l v vertex =
    let p : ℕ → Bool = λ w. is_label (s.label (outermost s.blossoms w)) l in
    holds-picked s.graph.vertices p v ∙ ap (λ b. b && p v) vertex

pub listed_vertex : (s : State) (l : Label) (v : ℕ) → holds (labelled_vertices s l) v ≡ true
    → (is_vertex s.graph.vertices v ≡ true) × (is_label (s.label (outermost s.blossoms v)) l ≡ true)
listed_vertex s l v h =
    let p : ℕ → Bool = λ w. is_label (s.label (outermost s.blossoms w)) l in
    and_parts (is_vertex s.graph.vertices v) (p v) (sym (holds-picked s.graph.vertices p v) ∙ h)

module _ (s : State) (depth : ℕ → ℕ) (graph : IsGraph s.graph) (nested : IsNested s.graph.vertices s.blossoms) (st : IsSearchState s depth)
    (planted : IsPlanted s) (stuck : IsStuck s) where
  -- an inner node is a vertex
  inner_alone : (v : ℕ) → is_vertex s.graph.vertices v ≡ true → s.label (outermost s.blossoms v) ≡ Inner → outermost s.blossoms v ≡ v
  inner_alone v iv lab =
      let a : ℕ = outermost s.blossoms v in
      let has = outermost_has s.graph.vertices s.blossoms v nested iv in
      let alone = members_of_vertex s.graph.vertices s.blossoms a nested (inner_vertex s depth a graph nested st stuck has.0 lab) in
      ⊎_elim (λ q. eqb-true a v q) (λ q. absurd (both_ways false refl q)) (or_cases (eqb a v) false (ap (λ ms. holds ms v) (sym alone) ∙ has.1))

  -- it hangs under an outer one by an edge
  has_outer : (v : ℕ) → holds (inner_vertices s) v ≡ true → IsBeside s.graph (outer_vertices s) v
  has_outer v h =
      let p = listed_vertex s Inner v h in let a : ℕ = outermost s.blossoms v in
      let lab : s.label a ≡ Inner = is_inner (s.label a) p.1 in
      let is = (outermost_has s.graph.vertices s.blossoms v nested p.0).0 in
      let i = (st.labels a is).inner lab in let e : ℕ = i.edge in let x = edge_of s.graph e in
      let iu = u_vertex s.graph e graph.ends i.is_edge in let iv = v_vertex s.graph e graph.ends i.is_edge in
      let outside : holds (outer_vertices s) v ≡ false = label_test s Outer v p.0 ∙ ap (λ l. is_label l Outer) lab in
      let there : (w : ℕ) → is_vertex s.graph.vertices w ≡ true → outermost s.blossoms w ≡ i.up → holds (outer_vertices s) w ≡ true =
      λ w iw at. label_test s Outer w iw ∙ ap (λ l. is_label l Outer) (ap s.label at ∙ i.up_outer) in
      let near : (w : ℕ) → is_vertex s.graph.vertices w ≡ true → outermost s.blossoms w ≡ a → w ≡ v =
      λ w iw at. sym (inner_alone w iw (ap s.label at ∙ lab)) ∙ at ∙ inner_alone v p.0 lab in
      let l : (far : ℕ) × LeadsTo s.graph e v far x.w × (holds (outer_vertices s) far ≡ true) = ⊎_elim
      (λ j. (x.v, record { number = i.is_edge; ends = inl (near x.u iu j.0, refl); weight = refl }, there x.v iv j.1))
      (λ j. (x.u, record { number = i.is_edge; ends = inr (refl, near x.v iv j.1); weight = refl }, there x.u iu j.0))
      i.joins in
      record {
        outside = outside;
        edge = e;
        is_edge = i.is_edge;
        at_vertex = leads_touch s.graph e v l.0 x.w l.1;
        inside = ap (holds (outer_vertices s)) (leads_end s.graph e v l.0 x.w l.1) ∙ l.2;
      }

  -- an edge joins the nodes of its two ends
  joins_ends : (e v : ℕ) → IsEdgeNumber s.graph e → touches (edge_of s.graph e) v ≡ true
      → Joins s.graph s.blossoms e (outermost s.blossoms (other_end (edge_of s.graph e) v)) (outermost s.blossoms v)
  joins_ends e v is meets =
      let far : ℕ = other_end (edge_of s.graph e) v in
      joins_turned s.graph s.blossoms e (outermost s.blossoms v) (outermost s.blossoms far)
      (leads_joins s.graph s.blossoms e v far (outermost s.blossoms v) (outermost s.blossoms far) (edge_of s.graph e).w (leads s.graph e v far (edge_of s.graph e).w is meets refl refl)
      refl refl)

  -- no edge leads from an outer node to one labelled out
  beside_inner : (v : ℕ) → IsBeside s.graph (outer_vertices s) v → holds (inner_vertices s) v ≡ true
  beside_inner v b =
      let e : ℕ = b.edge in
      let range = touched-within s.graph.vertices (edge_of s.graph e) v (edge_of_within s.graph e graph.ends b.is_edge) b.at_vertex in
      let iv = range_vertex s.graph.vertices v range.0 range.1 in
      let w : ℕ = other_end (edge_of s.graph e) v in
      let lw : s.label (outermost s.blossoms w) ≡ Outer = is_outer (s.label (outermost s.blossoms w)) (listed_vertex s Outer w b.inside).1 in
      label_test s Inner v iv ∙ by_label iv lw (s.label (outermost s.blossoms v)) refl
    where
      by_label : is_vertex s.graph.vertices v ≡ true → s.label (outermost s.blossoms (other_end (edge_of s.graph b.edge) v)) ≡ Outer → (l : Label)
          → s.label (outermost s.blossoms v) ≡ l → is_label (s.label (outermost s.blossoms v)) Inner ≡ true
      by_label iv lw Outer lab = absurd (both_ways (holds (outer_vertices s) v) b.outside (label_test s Outer v iv ∙ ap (λ l. is_label l Outer) lab))
      by_label iv lw Inner lab = ap (λ l. is_label l Inner) lab
      by_label iv lw Out lab = absurd ((stuck_none s depth graph nested st planted stuck).to_out b.edge (outermost s.blossoms (other_end (edge_of s.graph b.edge) v)) (outermost s.blossoms v)
          b.is_edge (joins_ends b.edge v b.is_edge b.at_vertex) lw lab)

  pub border_is : IsBorder s.graph (outer_vertices s) (inner_vertices s)
  border_is v = (has_outer v, beside_inner v)
