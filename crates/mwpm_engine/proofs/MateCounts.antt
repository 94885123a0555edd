-- How often a matching of vertices counts each edge, and the degrees that it makes.
use Rattle.alt_forest.proofs.Common.{◌≡◌, ◌≢◌, ◌∙◌, ℕ, ◌+◌, ◌-◌, ◌<◌, true, false, eqb, cond, length, slice_index, refl, sym, ap, subst, arith, ⊎_elim}
use Rattle.alt_forest.proofs.Common.{Option, Some, All, eqb-true, eq-eqb, false_from_ne_true, or_cases, same_Some, Multigraph, IsEdgeWithin, IsEdgeNumber, edge_at, edge_of, touches}
use Rattle.alt_forest.proofs.Common.{other_end, edge_of-place, number_of-place, other_end-u, is_vertex, u_vertex}
use Rattle.augment.specs.Matching.{is_edge, mate_counts, AreVertexMates}
use Rattle.augment.proofs.Counts.{is_edge-true}
use Rattle.mwpm_engine.proofs.CertificateMates.{by_mate, count_at}
use Rattle.search_start.proofs.FarEnds.{both_ends}

-- an edge at a vertex is kept at its other end too
pub record IsKeptTwice (g : Multigraph) (m : ℕ → Option ℕ) (v e : ℕ) : Type 0 where
  pub is_edge : IsEdgeNumber g e
  pub at_v : touches (edge_of g e) v ≡ true
  pub back : m (other_end (edge_of g e) v) ≡ Some e

module _ (g : Multigraph) (m : ℕ → Option ℕ) (ends : All (IsEdgeWithin g.vertices) g.edges) (mates : AreVertexMates g m) where
  pub kept_twice : (v e : ℕ) → is_vertex g.vertices v ≡ true → m v ≡ Some e → IsKeptTwice g m v e
  kept_twice v e iv has =
      let x = mates v e iv has in
      subst (IsKeptTwice g m v) (same_Some x.edge e (sym x.has ∙ has)) (record { is_edge = x.is_edge; at_v = x.at_v; back = x.back })

  -- the edge of a vertex is counted once, and no other edge there
  pub mate_counted : (v e : ℕ) → is_vertex g.vertices v ≡ true → m v ≡ Some e → slice_index (mate_counts g m) (e - 1) ≡ 1
  mate_counted v e iv has =
      let x = kept_twice v e iv has in
      let at_u : m (edge_of g e).u ≡ Some e = (both_ends g e v ends x.is_edge (λ y. m y ≡ Some e) x.at_v has x.back).0 in
      let same : (e - 1) + 1 ≡ e = omega (arith, x.is_edge.0) in
      count_at g m (e - 1) (omega (arith, x.is_edge.0, x.is_edge.1)) ∙ ap (by_mate g m) same ∙ ap (λ o. cond (is_edge o e) 1 0) at_u ∙ ap (λ t. cond t 1 0) (eq-eqb e e refl)

  pub not_counted : (v k : ℕ) → k < length g.edges → touches (edge_at g k) v ≡ true → m v ≢ Some (k + 1) → slice_index (mate_counts g m) k ≡ 0
  not_counted v k low meets other =
      let is = number_of-place g k low in let x = edge_of g (k + 1) in
      let none : is_edge (m x.u) (k + 1) ≡ false = false_from_ne_true (is_edge (m x.u) (k + 1)) (λ taken.
      let at_u : m x.u ≡ Some (k + 1) = is_edge-true (m x.u) (k + 1) taken in
      let at_v : m x.v ≡ Some (k + 1) = ap m (sym (other_end-u x)) ∙ (kept_twice x.u (k + 1) (u_vertex g (k + 1) ends is) at_u).back in
      other (⊎_elim (λ q. ap m (sym (eqb-true x.u v q)) ∙ at_u) (λ q. ap m (sym (eqb-true x.v v q)) ∙ at_v)
      (or_cases (eqb x.u v) (eqb x.v v) (ap (λ e. touches e v) (edge_of-place g k) ∙ meets)))) in
      count_at g m k low ∙ ap (λ t. cond t 1 0) none
