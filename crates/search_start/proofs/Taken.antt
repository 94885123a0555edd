-- An exposed vertex takes the far end of its least edge: the dual there falls, and that of the vertex rises.
use Rattle.alt_forest.proofs.Common.{◌≡◌, ◌≢◌, ◌∙◌, ℕ, ℤ, pos, ◌+ℤ◌, ◌-ℤ◌, ◌≤ℤ◌, neg_ℤ, to_z, of_z, true, false, eqb, sym, ap, subst, arith, ints}
use Rattle.alt_forest.proofs.Common.{both_ways, eqb-true, eqb-false, IsGraph, IsEdgeNumber, HasNoLoop, edge_of, touches, other_end, dual_at, is_vertex, by_test, State, IsExposed, IsTight}
use Rattle.alt_forest.proofs.Common.{slack_of, IsSound, is_given, put, state_of}
use Rattle.alt_forest.specs.declared.search.Search.{Search}
use Rattle.std.proofs.Common.{w64}
use Rattle.alt_forest.specs.declared.weights.Weights.TheVariants.{Given}
use Rattle.search_start.specs.Starts.{IsBegun, CanMove}
use Rattle.search_start.specs.Sweeps.{IsLead, CanTake}
use Rattle.search_start.specs.declared.reaching.Lead.{Lead}
use Rattle.search_start.proofs.FarEnds.{ends_differ, far_touches, far_differs, far_alone, both_ends}
use Rattle.search_start.proofs.Reaches.{some_edge}
use Rattle.search_start.proofs.StartDuals.{raised_at, rise_high, slack_here, slack_there}
use Rattle.search_start.proofs.StartSearch.{state_raised}

-- what it sees, whoever is matched
abbrev pub CanTakeEnd : Search → ℕ → Lead → ℤ → Type 0
CanTakeEnd s v l fall = (s.weights ≡ Given) × (is_vertex s.graph.vertices v ≡ true) × IsLead s.graph (slack_of (state_of s)) v l
    × CanTake (dual_at s.arena.duals l.least.far) s.start l fall

-- once the far end has been taken from its mate
module _ (old t : Search) (v : ℕ) (l : Lead) (fall : ℤ) (rest : t ≡ record old { mates = t.mates }) (sound : IsSound t) (h : IsBegun (state_of t) t.start)
    (seen : CanTakeEnd old v l fall) where
  given : CanTakeEnd t v l fall
  given = subst (λ (x : Search). CanTakeEnd x v l fall) (sym rest) seen

  abbrev s : State
  s = state_of t

  abbrev e : ℕ
  e = l.least.edge

  lead : IsLead s.graph (slack_of s) v l
  lead = given.2

  can : CanTake (s.dual l.least.far) t.start l fall
  can = given.3

  graph : IsGraph s.graph
  graph = sound.shape.graph.graph

  plain : HasNoLoop s.graph
  plain = sound.shape.graph.loopless

  -- the changes of the two duals as they are told
  abbrev down : ℤ
  down = to_z w64 (of_z w64 (pos 0 -ℤ to_z w64 (of_z w64 fall)))

  abbrev up : ℤ
  up = to_z w64 (of_z w64 (to_z w64 (of_z w64 l.least.by) +ℤ to_z w64 (of_z w64 fall)))

  down_is : down ≡ neg_ℤ fall
  down_is = omega (arith, ints, can.low, can.next, lead.next.high, lead.least.low)

  up_is : up ≡ l.least.by +ℤ fall
  up_is = omega (arith, ints, can.low, can.next, lead.next.high, lead.least.low)

  unweighted : s.weighted ≡ false → ⊥
  unweighted zero = both_ways s.weighted zero (ap is_given given.0)

  partner_differs : l.least.far ≢ v
  partner_differs = subst (λ x. x ≢ v) lead.least.far_is (far_differs s.graph e v graph.ends lead.least.is_edge plain)

  -- the dual at the far end can fall
  pub partner_falls : IsExposed s l.least.far → CanMove s t.start l.least.far down
  partner_falls exposed = subst (CanMove s t.start l.least.far) (sym down_is) (let low = can.low in record {
    exposed = exposed;
    low = let most = can.room in omega (arith, ints, most);
    even = let k = can.even.0 in let same : fall ≡ pos 0 +ℤ (k +ℤ k) = can.even.1 in (neg_ℤ k, omega (arith, ints, same));
    each = λ f is t. let here = sound.state.slacks f is in omega (arith, ints, here, low);
    high = let most = h.high l.least.far lead.least.far_vertex in omega (arith, ints, most, low);
    unweighted = λ zero. absurd (unweighted zero);
  })

  -- once it has fallen
  abbrev fallen : State
  fallen = raised_at s l.least.far down

  -- the slack of an edge that leads there has risen, others are as before
  slack_led : (f : ℕ) → IsEdgeNumber s.graph f → other_end (edge_of s.graph f) v ≡ l.least.far → slack_of fallen f ≡ slack_of s f +ℤ fall
  slack_led f is to =
      let at : touches (edge_of s.graph f) l.least.far ≡ true = subst (λ x. touches (edge_of s.graph f) x ≡ true) to (far_touches s.graph f v graph.ends is) in
      slack_here s l.least.far down f h.alone (ends_differ s.graph f plain is) at ∙ ap (λ d. slack_of s f -ℤ d) down_is ∙ omega (arith, ints)

  rise_each : (f : ℕ) → IsEdgeNumber s.graph f → touches (edge_of s.graph f) v ≡ true → (l.least.by +ℤ fall) ≤ℤ slack_of fallen f
  rise_each f is t =
      let each = lead.each f is t in
      by_test (eqb (other_end (edge_of s.graph f) v) l.least.far)
      (λ q.
      let now = slack_led f is (eqb-true (other_end (edge_of s.graph f) v) l.least.far q) in
      let least = each.0 in
      omega (arith, ints, now, least))
      (λ q.
      let other = eqb-false (other_end (edge_of s.graph f) v) l.least.far q in
      let now = slack_there s l.least.far down f h.alone (far_alone s.graph f v graph.ends is l.least.far t other partner_differs) in
      let more = (each.1 other).1 in let next = can.next in
      omega (arith, ints, now, more, next))

  rises : IsExposed s v → IsBegun fallen t.start → CanMove fallen t.start v (l.least.by +ℤ fall)
  rises exposed begun = record {
    exposed = exposed;
    low = let was = begun.low v given.1 in let by = lead.least.low in let low = can.low in omega (arith, ints, was, by, low);
    even =
        let k = can.even.0 in let j = lead.least.even.0 in
        let same : fall ≡ pos 0 +ℤ (k +ℤ k) = can.even.1 in
        let by : l.least.by ≡ pos 0 +ℤ (j +ℤ j) = lead.least.even.1 in
        (j +ℤ k, omega (arith, ints, same, by));
    each = rise_each;
    high = rise_high fallen t.start v (l.least.by +ℤ fall) graph begun given.1 rise_each (some_edge s.graph (slack_of s) v l.least lead.least);
    unweighted = λ zero. absurd (unweighted zero);
  }

  module _ (u : Search) (fell : u ≡ record t { arena = record t.arena { duals = u.arena.duals } })
      (duals : dual_at u.arena.duals ≡ put (dual_at t.arena.duals) l.least.far (dual_at t.arena.duals l.least.far +ℤ down)) (exposed : IsExposed s v) where
    fallen_is : state_of u ≡ fallen
    fallen_is = state_raised t u l.least.far down fell duals

    -- so the dual of the vertex can rise
    pub taker_rises : IsBegun (state_of u) u.start → CanMove (state_of u) u.start v up
    taker_rises begun =
        let start : u.start ≡ t.start = ap (λ (x : Search). x.start) fell in
        subst (CanMove (state_of u) u.start v) (sym up_is) (subst (λ x. CanMove (state_of u) x v (l.least.by +ℤ fall)) (sym start)
        (subst (λ (x : State). CanMove x t.start v (l.least.by +ℤ fall)) (sym fallen_is)
        (rises exposed (subst (λ (x : State). IsBegun x t.start) fallen_is (subst (IsBegun (state_of u)) start begun)))))

    -- and then the edge is tight, and can join the matching
    pub taken_pairs : (w : Search) → w ≡ record u { arena = record u.arena { duals = w.arena.duals } }
        → dual_at w.arena.duals ≡ put (dual_at u.arena.duals) v (dual_at u.arena.duals v +ℤ up) → IsExposed s l.least.far
        → IsTight (state_of w) e × IsExposed (state_of w) (edge_of w.graph e).u × IsExposed (state_of w) (edge_of w.graph e).v
    taken_pairs w rose risen far =
        let same = state_raised u w v up rose risen ∙ ap (λ (x : State). raised_at x v up) fallen_is in
        let now = slack_here fallen v up e h.alone (ends_differ s.graph e plain lead.least.is_edge) lead.least.at_vertex in
        let was = slack_led e lead.least.is_edge lead.least.far_is in let is = lead.least.slack_is in
        let by = up_is in
        let ends = both_ends s.graph e v graph.ends lead.least.is_edge (IsExposed s) lead.least.at_vertex exposed (subst (IsExposed s) (sym lead.least.far_is) far) in
        subst (λ (x : State). IsTight x e × IsExposed x (edge_of x.graph e).u × IsExposed x (edge_of x.graph e).v) (sym same)
        (record { edge = lead.least.is_edge; tight = omega (arith, ints, now, was, is, by) }, ends.0, ends.1)
