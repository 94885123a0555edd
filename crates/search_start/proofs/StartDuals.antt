-- The dual of an exposed vertex is raised before there is any blossom or tree.
use Rattle.alt_forest.proofs.Common.{◌≡◌, ◌≢◌, ◌⊎◌, ◌∙◌, ℕ, ℤ, pos, ◌+ℤ◌, ◌-ℤ◌, ◌*ℤ◌, ◌≤ℤ◌, neg_ℤ, Bool, true, false, eqb, cond, List}
use Rattle.alt_forest.proofs.Common.{[], ◌∷◌, Some, None, refl, sym, ap, ap₂, subst, ⊎_elim, inl, inr, arith, All, ints, eqb-true, ne_eqb, or_cases, or_parts, Multigraph, IsGraph}
use Rattle.alt_forest.proofs.Common.{IsEdgeWithin, IsEdgeNumber, HasNoLoop, edge_of, edges_around, touches, WEIGHT_LIMIT, holds, IsNumber, edge_of-weight, around-is, is_vertex, by_test}
use Rattle.alt_forest.proofs.Common.{first_in, u_vertex, v_vertex, State, IsExposed, IsMate, IsSearchState, doubled, slack_of, put, SameParity, some_not_none}
use Rattle.search_start.specs.Starts.{IsBegun, CanMove, CanPair, JoinsExposed}
use Rattle.search_start.proofs.FarEnds.{ends_differ}
use Rattle.search_start.proofs.Flat.{slack_flat, end_flat, flat_state}

abbrev pub raised_at : State → ℕ → ℤ → State
raised_at s v d = record s { dual = put s.dual v (s.dual v +ℤ d) }

module _ (s : State) (v : ℕ) (d : ℤ) where
  pub raised_here : (c : ℕ) → eqb c v ≡ true → (raised_at s v d).dual c ≡ s.dual c +ℤ d
  raised_here c t = ap (λ q. cond q (s.dual v +ℤ d) (s.dual c)) t ∙ ap (λ x. s.dual x +ℤ d) (sym (eqb-true c v t))

  pub raised_there : (c : ℕ) → eqb c v ≡ false → (raised_at s v d).dual c ≡ s.dual c
  raised_there c t = ap (λ q. cond q (s.dual v +ℤ d) (s.dual c)) t

  -- an edge at the vertex loses what the dual gains, and another one keeps its slack
  pub slack_here : (e : ℕ) → s.blossoms ≡ [] → (edge_of s.graph e).u ≢ (edge_of s.graph e).v → touches (edge_of s.graph e) v ≡ true → slack_of (raised_at s v d) e ≡ slack_of s e -ℤ d
  slack_here e alone differ t =
      let a : ℕ = (edge_of s.graph e).u in let b : ℕ = (edge_of s.graph e).v in
      let now = slack_flat (raised_at s v d) alone e in let was = slack_flat s alone e in
      ⊎_elim
      (λ here.
      let one = raised_here a here in
      let other = raised_there b (ne_eqb b v (λ q. differ (eqb-true a v here ∙ sym q))) in
      omega (arith, ints, now, was, one, other))
      (λ here.
      let one = raised_here b here in
      let other = raised_there a (ne_eqb a v (λ q. differ (q ∙ sym (eqb-true b v here)))) in
      omega (arith, ints, now, was, one, other))
      (or_cases (eqb a v) (eqb b v) t)

  pub slack_there : (e : ℕ) → s.blossoms ≡ [] → touches (edge_of s.graph e) v ≡ false → slack_of (raised_at s v d) e ≡ slack_of s e
  slack_there e alone t =
      let a : ℕ = (edge_of s.graph e).u in let b : ℕ = (edge_of s.graph e).v in
      let p = or_parts (eqb a v) (eqb b v) t in
      slack_flat (raised_at s v d) alone e ∙ ap₂ (λ (x y : ℤ). doubled s.graph s.weighted e -ℤ (x +ℤ y)) (raised_there a p.0) (raised_there b p.1) ∙ sym (slack_flat s alone e)

-- an exposed vertex is no end of an edge that matches two nodes
mate_misses : (s : State) (v a e b : ℕ) → s.blossoms ≡ [] → s.mate v ≡ None → s.mate a ≡ Some e → IsMate s a e b → touches (edge_of s.graph e) v ≡ false
mate_misses s v a e b alone exposed has m = by_test (touches (edge_of s.graph e) v)
    (λ t. ⊎_elim
    (λ q. some_not_none e (sym has ∙ ap s.mate q ∙ exposed))
    (λ q. some_not_none e (sym m.back ∙ ap s.mate q ∙ exposed))
    (end_flat s alone v e a b m.joins t))
    (λ t. t)

even_more : (x y d : ℤ) → SameParity x y → SameParity d (pos 0) → SameParity (x +ℤ d) y
even_more x y d p q = let h = p.0 in let k = q.0 in let e : x ≡ y +ℤ (h +ℤ h) = p.1 in let f : d ≡ pos 0 +ℤ (k +ℤ k) = q.1 in (h +ℤ k, omega (arith, ints, e, f))

-- what holds of each dual, the raised one too
each_dual : (s : State) (v : ℕ) (d : ℤ) (P : ℤ → Type 0) → P (s.dual v +ℤ d) → (c : ℕ) → P (s.dual c) → P ((raised_at s v d).dual c)
each_dual s v d P here c old = by_test (eqb c v)
    (λ t. subst P (sym (ap (λ q. cond q (s.dual v +ℤ d) (s.dual c)) t)) here)
    (λ t. subst P (sym (raised_there s v d c t)) old)

pub raised_begun : (s : State) (start : ℤ) (v : ℕ) (d : ℤ) → is_vertex s.graph.vertices v ≡ true → CanMove s start v d → IsBegun s start → IsBegun (raised_at s v d) start
raised_begun s start v d vertex can h = record {
  alone = h.alone;
  out = h.out;
  start_weight = h.start_weight;
  low = λ c is. each_dual s v d (λ y. start ≤ℤ y) can.low c (h.low c is);
  high = λ c is. each_dual s v d (λ y. y ≤ℤ (pos 3 *ℤ WEIGHT_LIMIT)) can.high c (h.high c is);
  parity = λ c is. each_dual s v d (λ y. SameParity y start) (even_more (s.dual v) start d (h.parity v vertex) can.even) c (h.parity c is);
  unweighted = λ zero c is. let was = h.unweighted zero v vertex in let more = can.unweighted zero in each_dual s v d (λ y. y
      ≡ pos 0) (omega (arith, ints, was, more)) c (h.unweighted zero c is);
}

-- what the raised dual leaves of the state
pub raised_state : (s : State) (start : ℤ) (v : ℕ) (d : ℤ) (depth : ℕ → ℕ) → HasNoLoop s.graph → CanMove s start v d → is_vertex s.graph.vertices v ≡ true
    → IsBegun s start → IsSearchState s depth → IsSearchState (raised_at s v d) depth
raised_state s start v d depth plain can vertex h st = flat_state (raised_at s v d) h.alone start depth (raised_begun s start v d vertex can h)
    (λ e is. by_test (touches (edge_of s.graph e) v)
    (λ t. let now = slack_here s v d e h.alone (ends_differ s.graph e plain is) t in let most = can.each e is t in omega (arith, ints, now, most))
    (λ t. subst (λ x. pos 0 ≤ℤ x) (sym (slack_there s v d e h.alone t)) (st.slacks e is)))
    (λ a e is has. let m = st.mates a e is has in (
      m.0,
      record {
        edge = m.1.edge;
        joins = m.1.joins;
        different = m.1.different;
        tight = slack_there s v d e h.alone (mate_misses s v a e m.0 h.alone can.exposed.1 has m.1) ∙ m.1.tight;
        outermost = m.1.outermost;
        back = m.1.back;
      },
    ))

-- the raised dual lies in range
pub raised_number : (s : State) (start : ℤ) (v : ℕ) (d : ℤ) → is_vertex s.graph.vertices v ≡ true → CanMove s start v d → IsBegun s start → IsNumber (s.dual v +ℤ d)
raised_number s start v d vertex can h =
    let least = h.start_weight.0 in let low = can.low in let most = can.high in
    (omega (arith, ints, least, low), omega (arith, ints, most))

-- no edge at a vertex, or some
some_around : (g : Multigraph) (v : ℕ) → (edges_around g v ≡ []) ⊎ ((e : ℕ) × IsEdgeNumber g e × (touches (edge_of g e) v ≡ true))
some_around g v = pick (edges_around g v) refl
  where
    pick : (xs : List ℕ) → edges_around g v ≡ xs → (edges_around g v ≡ []) ⊎ ((e : ℕ) × IsEdgeNumber g e × (touches (edge_of g e) v ≡ true))
    pick [] same = inl same
    pick (e ∷ rest) same = let r = around-is g v e (ap (λ xs. holds xs e) same ∙ first_in e rest) in inr (e, r.0, r.1)

-- the doubled weight of an edge is at most twice the limit
pub doubled_most : (g : Multigraph) (weighted : Bool) (e : ℕ) → IsGraph g → IsEdgeNumber g e → doubled g weighted e ≤ℤ (pos 2 *ℤ WEIGHT_LIMIT)
doubled_most g true e graph is = let w = edge_of-weight g e graph is in let high : (edge_of g e).w ≤ℤ WEIGHT_LIMIT = w.1 in omega (arith, ints, high)
doubled_most g false e graph is = omega (arith, ints)

-- an edge at a vertex bounds how far its dual can rise
module _ (s : State) (start : ℤ) (v : ℕ) (d : ℤ) (graph : IsGraph s.graph) (h : IsBegun s start) (vertex : is_vertex s.graph.vertices v ≡ true) where
  -- the dual at the other end is at least the start
  within_weight : (e : ℕ) → IsEdgeNumber s.graph e → touches (edge_of s.graph e) v ≡ true → d ≤ℤ slack_of s e → (s.dual v +ℤ d) ≤ℤ (doubled s.graph s.weighted e -ℤ start)
  within_weight e is t most =
      let a : ℕ = (edge_of s.graph e).u in let b : ℕ = (edge_of s.graph e).v in
      let was = slack_flat s h.alone e in let low_a = h.low a (u_vertex s.graph e graph.ends is) in
      let low_b = h.low b (v_vertex s.graph e graph.ends is) in
      ⊎_elim
      (λ q. let same : s.dual a ≡ s.dual v = ap s.dual (eqb-true a v q) in omega (arith, ints, was, low_a, low_b, most, same))
      (λ q. let same : s.dual b ≡ s.dual v = ap s.dual (eqb-true b v q) in omega (arith, ints, was, low_a, low_b, most, same))
      (or_cases (eqb a v) (eqb b v) t)

  pub rise_high : ((e : ℕ) → IsEdgeNumber s.graph e → touches (edge_of s.graph e) v ≡ true → d ≤ℤ slack_of s e) → (edges_around s.graph v ≡ [] → d ≡ pos 0)
      → (s.dual v +ℤ d) ≤ℤ (pos 3 *ℤ WEIGHT_LIMIT)
  rise_high each none = ⊎_elim
      (λ q. let zero = none q in let was = h.high v vertex in omega (arith, ints, zero, was))
      (λ (e, is, t).
      let here = within_weight e is t (each e is t) in
      let most = doubled_most s.graph s.weighted e graph is in
      let low : neg_ℤ WEIGHT_LIMIT ≤ℤ start = h.start_weight.0 in
      omega (arith, ints, here, most, low))
      (some_around s.graph v)

  -- where weights aren't used it can't rise at all
  pub rise_still : pos 0 ≤ℤ d → ((e : ℕ) → IsEdgeNumber s.graph e → touches (edge_of s.graph e) v ≡ true → d ≤ℤ slack_of s e) → (edges_around s.graph v ≡ [] → d ≡ pos 0)
      → s.weighted ≡ false → d ≡ pos 0
  rise_still low each none zero = ⊎_elim
      none
      (λ (e, is, t).
      let most = each e is t in let was = slack_flat s h.alone e in
      let weight : doubled s.graph s.weighted e ≡ pos 0 = ap (λ q. doubled s.graph q e) zero in
      let a = h.unweighted zero (edge_of s.graph e).u (u_vertex s.graph e graph.ends is) in
      let b = h.unweighted zero (edge_of s.graph e).v (v_vertex s.graph e graph.ends is) in
      omega (arith, ints, low, most, was, weight, a, b))
      (some_around s.graph v)

doubled_even : (g : Multigraph) (weighted : Bool) (e : ℕ) → (k : ℤ) × (doubled g weighted e ≡ k +ℤ k)
doubled_even g true e = ((edge_of g e).w, omega (arith, ints))
doubled_even g false e = (pos 0, omega (arith, ints))

-- duals of one parity leave each slack even
pub slack_even : (s : State) (start : ℤ) (e : ℕ) → All (IsEdgeWithin s.graph.vertices) s.graph.edges → IsBegun s start → IsEdgeNumber s.graph e → SameParity (slack_of s e) (pos 0)
slack_even s start e ends h is =
    let p = h.parity (edge_of s.graph e).u (u_vertex s.graph e ends is) in
    let q = h.parity (edge_of s.graph e).v (v_vertex s.graph e ends is) in
    let w = doubled_even s.graph s.weighted e in
    plain (slack_of s e) (doubled s.graph s.weighted e) (s.dual (edge_of s.graph e).u) (s.dual (edge_of s.graph e).v) w.0 p.0 q.0 (slack_flat s h.alone e) w.1 p.1 q.1
  where
    plain : (t w x y k a b : ℤ) → t ≡ w -ℤ (x +ℤ y) → w ≡ k +ℤ k → x ≡ start +ℤ (a +ℤ a) → y ≡ start +ℤ (b +ℤ b) → SameParity t (pos 0)
    plain t w x y k a b e f g i = (((k -ℤ start) -ℤ a) -ℤ b, omega (arith, ints, e, f, g, i))

-- an edge at the raised vertex that joins exposed vertices now had the slack by which the dual rose
pub joins_here : (s : State) (v : ℕ) (d : ℤ) (e : ℕ) → HasNoLoop s.graph → s.blossoms ≡ [] → touches (edge_of s.graph e) v ≡ true
    → JoinsExposed (raised_at s v d) e → CanPair s v d e
joins_here s v d e plain alone t j =
    let is : IsEdgeNumber s.graph e = j.tight.edge in
    let now = slack_here s v d e alone (ends_differ s.graph e plain is) t in let zero = j.tight.tight in
    record {
      is_edge = is;
      at_vertex = t;
      slack_is = omega (arith, ints, now, zero);
      exposed = by_test (eqb (edge_of s.graph e).u v)
          (λ q. subst (IsExposed s) (sym (ap (λ b. cond b (edge_of s.graph e).v (edge_of s.graph e).u) q)) j.v)
          (λ q. subst (IsExposed s) (sym (ap (λ b. cond b (edge_of s.graph e).v (edge_of s.graph e).u) q)) j.u);
    }

-- another edge that does so did so before
pub joins_there : (s : State) (v : ℕ) (d : ℤ) (e : ℕ) → s.blossoms ≡ [] → touches (edge_of s.graph e) v ≡ false → JoinsExposed (raised_at s v d) e → JoinsExposed s e
joins_there s v d e alone t j = record { tight = record { edge = j.tight.edge; tight = sym (slack_there s v d e alone t) ∙ j.tight.tight }; u = j.u; v = j.v }
