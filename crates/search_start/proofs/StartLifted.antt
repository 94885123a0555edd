-- The duals of the vertices are raised towards the weights of their edges, one vertex after the other, where weights are used.
use Rattle.alt_forest.proofs.Common.{◌≡◌, ◌≢◌, ◌∙◌, ℕ, ◌-◌, ℤ, pos, ◌+ℤ◌, ◌*ℤ◌, ◌≤ℤ◌, true, eqb, sym, ap, subst, ⊎_elim, arith, ints}
use Rattle.alt_forest.proofs.Common.{both_ways, eqb-true, ne_eqb, or_cases, IsGraph, IsEdgeNumber, IsWeight, edge_of, touches, is_vertex, by_test, u_vertex, v_vertex, vertex_range, State}
use Rattle.alt_forest.proofs.Common.{doubled, slack_of, SameParity, touches-u, touches-v}
use Rattle.search_start.specs.Starts.{CanMove, IsLifted}
use Rattle.search_start.proofs.Flat.{slack_flat, outer_flat}
use Rattle.search_start.proofs.StartDuals.{raised_at, raised_here, raised_there, raised_begun}

module _ (s : State) (start : ℤ) (v : ℕ) (least d : ℤ) (graph : IsGraph s.graph) (h : IsLifted s start (v - 1)) (vertex : is_vertex s.graph.vertices v ≡ true) (low : pos 0 ≤ℤ d)
    (even : SameParity d (pos 0)) (less : (start +ℤ d) ≤ℤ least) (weight : IsWeight least)
    (each : (e : ℕ) → IsEdgeNumber s.graph e → touches (edge_of s.graph e) v ≡ true → least ≤ℤ (edge_of s.graph e).w) where
  begins : s.dual v ≡ start
  begins = h.waiting v vertex (omega (arith, (vertex_range s.graph.vertices v vertex).0))

  -- the dual at the other end is at most the weight, too
  most : (e : ℕ) → IsEdgeNumber s.graph e → touches (edge_of s.graph e) v ≡ true → d ≤ℤ slack_of s e
  most e is t =
      let a : ℕ = (edge_of s.graph e).u in let b : ℕ = (edge_of s.graph e).v in
      let was = slack_flat s h.started.alone e in
      let twice : doubled s.graph s.weighted e ≡ pos 2 *ℤ (edge_of s.graph e).w = ap (λ q. doubled s.graph q e) h.weighted in
      let room = each e is t in
      let below_a = h.below a e (u_vertex s.graph e graph.ends is) is (touches-u (edge_of s.graph e)) in
      let below_b = h.below b e (v_vertex s.graph e graph.ends is) is (touches-v (edge_of s.graph e)) in
      ⊎_elim
      (λ q. let here : s.dual a ≡ start = ap s.dual (eqb-true a v q) ∙ begins in omega (arith, ints, was, twice, room, less, here, below_b))
      (λ q. let here : s.dual b ≡ start = ap s.dual (eqb-true b v q) ∙ begins in omega (arith, ints, was, twice, room, less, here, below_a))
      (or_cases (eqb a v) (eqb b v) t)

  pub lift_rises : CanMove s start v d
  lift_rises = record {
    exposed = (outer_flat s h.started.alone v vertex, h.unmated v);
    low = let here = begins in omega (arith, ints, here, low);
    even = even;
    each = most;
    high = let here = begins in let most = weight.1 in omega (arith, ints, here, less, most);
    unweighted = λ unweighted. absurd (both_ways s.weighted unweighted h.weighted);
  }

  pub lifted_next : IsLifted (raised_at s v d) start v
  lifted_next = record {
    weighted = h.weighted;
    started = raised_begun s start v d vertex lift_rises h.started;
    below = λ x e is number t. by_test (eqb x v)
        (λ q.
        let now : (raised_at s v d).dual x ≡ s.dual x +ℤ d = raised_here s v d x q in
        let was : s.dual x ≡ start = ap s.dual (eqb-true x v q) ∙ begins in
        let room = each e number (ap (touches (edge_of s.graph e)) (sym (eqb-true x v q)) ∙ t) in
        omega (arith, ints, now, was, room, less))
        (λ q. subst (λ y. y ≤ℤ (edge_of s.graph e).w) (sym (raised_there s v d x q)) (h.below x e is number t));
    waiting = λ x is after.
        let differs : x ≢ v = λ same. absurd (omega (arith, same, after)) in
        raised_there s v d x (ne_eqb x v differs) ∙ h.waiting x is (omega (arith, after));
    unmated = h.unmated;
  }
