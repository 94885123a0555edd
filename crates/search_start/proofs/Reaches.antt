-- What an exposed vertex sees at the start of a pass: the slacks of its edges, and the two least that lead to different ends.
use Rattle.alt_forest.proofs.Common.{◌≡◌, ℕ, ℤ, pos, ◌+ℤ◌, ◌-ℤ◌, ◌*ℤ◌, ◌≤ℤ◌, neg_ℤ, true, [], Some, refl, ap, subst, arith, ints, both_ways}
use Rattle.alt_forest.proofs.Common.{WEIGHT_LIMIT, Multigraph, IsGraph, IsEdgeNumber, edge_of, edges_around, touches, holds, around-has, is_vertex, u_vertex, v_vertex, State, IsExposed}
use Rattle.alt_forest.proofs.Common.{slack_of, SameParity}
use Rattle.search_start.specs.Starts.{IsBegun, CanMove}
use Rattle.search_start.specs.Sweeps.{IsReach, IsLead, CanTake}
use Rattle.search_start.specs.declared.reaching.Lead.{Lead}
use Rattle.search_start.specs.declared.reaching.Reach.{Reach}
use Rattle.search_start.proofs.Flat.{slack_flat}
use Rattle.search_start.proofs.StartDuals.{doubled_most, rise_high, rise_still}

-- what holds of what an option has holds of all that it has
pub told : {T : Type 0} (P : T → Type 0) (x : T) → P x → (y : T) → Some x ≡ Some y → P y
told P x h y q = let same : x ≡ y = cc in subst P same h

-- no slack is more than twice the limit of weights, with as much for each of the two duals
pub slack_most : (s : State) (start : ℤ) (e : ℕ) → IsGraph s.graph → IsBegun s start → IsEdgeNumber s.graph e → slack_of s e ≤ℤ (pos 4 *ℤ WEIGHT_LIMIT)
slack_most s start e graph h is =
    let was = slack_flat s h.alone e in
    let low_a = h.low (edge_of s.graph e).u (u_vertex s.graph e graph.ends is) in
    let low_b = h.low (edge_of s.graph e).v (v_vertex s.graph e graph.ends is) in
    let most = doubled_most s.graph s.weighted e graph is in
    let low : neg_ℤ WEIGHT_LIMIT ≤ℤ start = h.start_weight.0 in
    omega (arith, ints, was, low_a, low_b, most, low)

-- where an edge is at a vertex there is one
pub some_edge : {A : Type 0} (g : Multigraph) (slack : ℕ → ℤ) (v : ℕ) (r : Reach) → IsReach g slack v r → edges_around g v ≡ [] → A
some_edge g slack v r reach empty =
    absurd (both_ways (holds (edges_around g v) r.edge) (ap (λ xs. holds xs r.edge) empty) (around-has g v r.edge reach.is_edge reach.at_vertex))

-- the dual of an exposed vertex can rise by the least slack
pub lead_rises : (s : State) (start : ℤ) (v : ℕ) (l : Lead) → IsGraph s.graph → IsBegun s start → is_vertex s.graph.vertices v ≡ true → IsLead s.graph (slack_of s) v l
    → IsExposed s v → CanMove s start v l.least.by
lead_rises s start v l graph h vertex lead exposed =
    let none : edges_around s.graph v ≡ [] → l.least.by ≡ pos 0 = some_edge s.graph (slack_of s) v l.least lead.least in
    let each = λ (e : ℕ) (is : IsEdgeNumber s.graph e) (t : touches (edge_of s.graph e) v ≡ true). (lead.each e is t).0 in
    record {
      exposed = exposed;
      low = let was = h.low v vertex in let by = lead.least.low in omega (arith, ints, was, by);
      even = lead.least.even;
      each = each;
      high = rise_high s start v l.least.by graph h vertex each none;
      unweighted = rise_still s start v l.least.by graph h vertex lead.least.low each none;
    }

-- it can take the far end of the least edge, where the dual falls by 0, by all that it can, or by the difference of the two slacks
module _ (far start : ℤ) (l : Lead) (low : start ≤ℤ far) (order : l.least.by ≤ℤ l.next.by) where
  pub takes_none : CanTake far start l (pos 0)
  takes_none = record { low = omega (arith, ints); even = (pos 0, refl); next = omega (arith, ints, order); room = omega (arith, ints, low) }

  pub takes_room : (room : ℤ) → room ≡ far -ℤ start → SameParity far start → (l.least.by +ℤ room) ≤ℤ l.next.by → CanTake far start l room
  takes_room room is even less = record {
    low = omega (arith, ints, is, low);
    even = let k = even.0 in let same : far ≡ start +ℤ (k +ℤ k) = even.1 in (k, omega (arith, ints, is, same));
    next = less;
    room = omega (arith, ints, is);
  }

  pub takes_gap : (gap : ℤ) → gap ≡ l.next.by -ℤ l.least.by → SameParity l.next.by (pos 0) → SameParity l.least.by (pos 0) → (start +ℤ gap) ≤ℤ far
      → CanTake far start l gap
  takes_gap gap is p q less = record {
    low = omega (arith, ints, is, order);
    even =
        let j = p.0 in let k = q.0 in let next : l.next.by ≡ pos 0 +ℤ (j +ℤ j) = p.1 in
        let least : l.least.by ≡ pos 0 +ℤ (k +ℤ k) = q.1 in
        (j -ℤ k, omega (arith, ints, is, next, least));
    next = omega (arith, ints, is);
    room = less;
  }
