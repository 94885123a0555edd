-- The far end of an edge at a vertex.
use Rattle.alt_forest.proofs.Common.{◌≡◌, ◌≢◌, ◌∙◌, ℕ, ◌-◌, true, false, ◌||◌, eqb, cond, sym, ap, subst, arith, ⊎_elim, All, false_from_ne_true, eqb-true}
use Rattle.alt_forest.proofs.Common.{eqb-false, or_cases, Multigraph, IsEdgeWithin, IsEdgeNumber, HasNoLoop, no_edge, edge_of, touches, other_end, touches-u, touches-v, is_vertex, u_vertex}
use Rattle.alt_forest.proofs.Common.{v_vertex, by_test}

-- where no edge is a loop the two ends differ
pub ends_differ : (g : Multigraph) (e : ℕ) → HasNoLoop g → IsEdgeNumber g e → (edge_of g e).u ≢ (edge_of g e).v
ends_differ g e plain is = eqb-false (edge_of g e).u (edge_of g e).v (plain (e - 1) no_edge (omega (arith, is.0, is.1)))

module _ (g : Multigraph) (e v : ℕ) (ends : All (IsEdgeWithin g.vertices) g.edges) (is : IsEdgeNumber g e) where
  -- what holds of the two ends holds of the far one
  of_far : (P : ℕ → Type 0) → P (edge_of g e).u → P (edge_of g e).v → P (other_end (edge_of g e) v)
  of_far P at_u at_v = by_test (eqb (edge_of g e).u v)
      (λ q. subst P (sym (ap (λ b. cond b (edge_of g e).v (edge_of g e).u) q)) at_v)
      (λ q. subst P (sym (ap (λ b. cond b (edge_of g e).v (edge_of g e).u) q)) at_u)

  -- it is a vertex, at which the edge is
  pub far_vertex : is_vertex g.vertices (other_end (edge_of g e) v) ≡ true
  far_vertex = of_far (λ x. is_vertex g.vertices x ≡ true) (u_vertex g e ends is) (v_vertex g e ends is)

  pub far_touches : touches (edge_of g e) (other_end (edge_of g e) v) ≡ true
  far_touches = of_far (λ x. touches (edge_of g e) x ≡ true) (touches-u (edge_of g e)) (touches-v (edge_of g e))

  -- and another one
  pub far_differs : HasNoLoop g → other_end (edge_of g e) v ≢ v
  far_differs plain same = by_test (eqb (edge_of g e).u v)
      (λ q. ends_differ g e plain is (eqb-true (edge_of g e).u v q ∙ sym same ∙ ap (λ b. cond b (edge_of g e).v (edge_of g e).u) q))
      (λ q. eqb-false (edge_of g e).u v q (sym (ap (λ b. cond b (edge_of g e).v (edge_of g e).u) q) ∙ same))

  -- the edge is at no third vertex
  pub far_alone : (x : ℕ) → touches (edge_of g e) v ≡ true → other_end (edge_of g e) v ≢ x → x ≢ v → touches (edge_of g e) x ≡ false
  far_alone x at other differs = false_from_ne_true (touches (edge_of g e) x) (λ t.
      let either = or_cases (eqb (edge_of g e).u x) (eqb (edge_of g e).v x) t in
      other (by_test (eqb (edge_of g e).u v)
      (λ q.
      ap (λ b. cond b (edge_of g e).v (edge_of g e).u) q
      ∙ ⊎_elim (λ p. absurd (differs (sym (eqb-true (edge_of g e).u x p) ∙ eqb-true (edge_of g e).u v q))) (λ p. eqb-true (edge_of g e).v x p) either)
      (λ q.
      let at_v : (edge_of g e).v ≡ v = eqb-true (edge_of g e).v v (sym (ap (λ b. b || eqb (edge_of g e).v v) q) ∙ at) in
      ap (λ b. cond b (edge_of g e).v (edge_of g e).u) q
      ∙ ⊎_elim (λ p. eqb-true (edge_of g e).u x p) (λ p. absurd (differs (sym (eqb-true (edge_of g e).v x p) ∙ at_v))) either)))

  -- what holds of the vertex and of the far end holds of both ends
  pub both_ends : (P : ℕ → Type 0) → touches (edge_of g e) v ≡ true → P v → P (other_end (edge_of g e) v) → P (edge_of g e).u × P (edge_of g e).v
  both_ends P at here there = by_test (eqb (edge_of g e).u v)
      (λ q. (subst P (sym (eqb-true (edge_of g e).u v q)) here, subst P (ap (λ b. cond b (edge_of g e).v (edge_of g e).u) q) there))
      (λ q.
      let at_v : (edge_of g e).v ≡ v = eqb-true (edge_of g e).v v (sym (ap (λ b. b || eqb (edge_of g e).v v) q) ∙ at) in
      (subst P (ap (λ b. cond b (edge_of g e).v (edge_of g e).u) q) there, subst P (sym at_v) here))
