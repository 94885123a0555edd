-- What the steps of the start of a pass leave of a search.
use Rattle.alt_forest.proofs.Common.{◌≡◌, ◌∙◌, ℕ, ◌<◌, ℤ, pos, ◌+ℤ◌, ◌≤ℤ◌, true, eqb, [], Option, Some, None, length, sym, ap, subst, arith, ⊎_elim, ints}
use Rattle.alt_forest.proofs.Common.{same_Some, eqb-true, or_cases, IsEdgeNumber, edge_of, edges_around, touches, other_end, Family, IsFamily, dual_at, is_vertex, raised, vertex_range}
use Rattle.alt_forest.proofs.Common.{State, IsExposed, IsTight, IsSearchState, slack_of, SameParity, HasShape, IsSound, put, state_of, put_dual, some_not_none}
use Rattle.alt_forest.specs.declared.search.Search.{Search}
use Rattle.search_start.specs.Starts.{IsBegun, CanMove, CanPair, IsRise, JoinsExposed}
use Rattle.search_start.proofs.FarEnds.{both_ends, ends_differ}
use Rattle.search_start.proofs.StartDuals.{raised_at, raised_state, raised_begun, rise_high, rise_still, slack_even, slack_here}

-- a vertex's dual has its place in the list
pub dual_place : (s : Search) (v : ℕ) → HasShape s → is_vertex s.graph.vertices v ≡ true → v < length s.arena.duals
dual_place s v h is = omega (arith, (vertex_range s.graph.vertices v is).1, h.family.duals.one_each, h.arena)

-- the search with the dual of a vertex raised
module _ (s : Search) (f : Family) (v : ℕ) (d : ℤ) (is : f ≡ raised s.arena v d) (h : IsSound s) (vertex : is_vertex s.graph.vertices v ≡ true) where
  pub raised_duals : dual_at f.duals ≡ put (dual_at s.arena.duals) v (dual_at s.arena.duals v +ℤ d)
  raised_duals = ap (λ (k : Family). dual_at k.duals) is ∙ put_dual s.arena.duals v (dual_at s.arena.duals v +ℤ d) (dual_place s v h.shape vertex)

  pub raised_is : state_of (record s { arena = f }) ≡ raised_at (state_of s) v d
  raised_is =
      ap (λ (k : Family). state_of (record s { arena = k })) is
      ∙ ap (λ (y : ℕ → ℤ). record (state_of s) { dual = y }) (put_dual s.arena.duals v (dual_at s.arena.duals v +ℤ d) (dual_place s v h.shape vertex))

  module _ (begun : IsBegun (state_of s) s.start) (can : CanMove (state_of s) s.start v d) where
    pub raised_sound : IsFamily f → IsSound (record s { arena = f })
    raised_sound good =
        let p = h.shape in let a = ap (λ (k : Family). k.vertex_count) is ∙ p.arena in
        let state = raised_state (state_of s) s.start v d h.depth h.shape.graph.loopless can vertex begun h.state in
        record {
          shape = record { graph = p.graph; family = good; arena = a; labels = p.labels; parents = p.parents; mates = p.mates; circuit = p.circuit; room = p.room };
          depth = h.depth;
          state = subst (λ (t : State). IsSearchState t h.depth) (sym raised_is) state;
        }

    pub raised_begins : IsBegun (state_of (record s { arena = f })) s.start
    raised_begins = subst (λ (t : State). IsBegun t s.start) (sym raised_is) (raised_begun (state_of s) s.start v d vertex can begun)

-- the slack of an edge at a vertex, with the edge itself where it leads to an exposed vertex
module _ (s : Search) (v e : ℕ) (x : ℤ) (h : IsSound s) (begun : IsBegun (state_of s) s.start) (is : IsEdgeNumber s.graph e) (same : x ≡ slack_of (state_of s) e) where
  rise_low : pos 0 ≤ℤ x
  rise_low = subst (λ y. pos 0 ≤ℤ y) (sym same) (h.state.slacks e is)

  rise_even : SameParity x (pos 0)
  rise_even = subst (λ y. SameParity y (pos 0)) (sym same) (slack_even (state_of s) s.start e h.shape.graph.graph.ends begun is)

  pub rise_alone : IsRise (state_of s) v x None
  rise_alone = record { low = rise_low; even = rise_even; mate_pairs = λ d q. some_not_none d (sym q) }

  pub rise_paired : touches (edge_of s.graph e) v ≡ true → IsExposed (state_of s) (other_end (edge_of s.graph e) v) → IsRise (state_of s) v x (Some e)
  rise_paired at exposed = record {
    low = rise_low;
    even = rise_even;
    mate_pairs = λ d q. subst (CanPair (state_of s) v x) (same_Some e d q) (record { is_edge = is; at_vertex = at; slack_is = sym same; exposed = exposed });
  }

-- what the least slack at an exposed vertex lets it do
pub least_rises : (s : Search) (v : ℕ) (x : ℤ) (mate : Option ℕ) → IsSound s → IsBegun (state_of s) s.start → is_vertex s.graph.vertices v ≡ true → IsExposed (state_of s) v
    → IsRise (state_of s) v x mate
    → ((e : ℕ) → IsEdgeNumber s.graph e → touches (edge_of s.graph e) v ≡ true → x ≤ℤ slack_of (state_of s) e) → (edges_around s.graph v ≡ [] → x ≡ pos 0) → CanMove (state_of s) s.start v x
least_rises s v x mate h begun vertex exposed rise each none = record {
  exposed = exposed;
  low = let was = begun.low v vertex in let more = rise.low in omega (arith, ints, was, more);
  even = rise.even;
  each = each;
  high = rise_high (state_of s) s.start v x h.shape.graph.graph begun vertex each none;
  unweighted = rise_still (state_of s) s.start v x h.shape.graph.graph begun vertex rise.low each none;
}

-- an edge of the least slack is tight once the dual of its end has risen by it, and its two ends are exposed
module _ (s t : Search) (v e : ℕ) (x : ℤ) (same : state_of t ≡ raised_at (state_of s) v x) (h : IsSound s) (begun : IsBegun (state_of s) s.start) (exposed : IsExposed (state_of s) v)
    (can : CanPair (state_of s) v x e) where
  pub can_be_paired : IsTight (state_of t) e × IsExposed (state_of t) (edge_of t.graph e).u × IsExposed (state_of t) (edge_of t.graph e).v
  can_be_paired =
      let now = slack_here (state_of s) v x e begun.alone (ends_differ s.graph e h.shape.graph.loopless can.is_edge) can.at_vertex in
      let was = can.slack_is in
      let ends = both_ends s.graph e v h.shape.graph.graph.ends can.is_edge (IsExposed (state_of s)) can.at_vertex exposed can.exposed in
      subst (λ (y : State). IsTight y e × IsExposed y (edge_of y.graph e).u × IsExposed y (edge_of y.graph e).v) (sym same)
      (record { edge = can.is_edge; tight = omega (arith, ints, now, was) }, ends.0, ends.1)

-- the state of a search of which a dual has risen
pub state_raised : (s t : Search) (v : ℕ) (d : ℤ) → t ≡ record s { arena = record s.arena { duals = t.arena.duals } }
    → dual_at t.arena.duals ≡ put (dual_at s.arena.duals) v (dual_at s.arena.duals v +ℤ d) → state_of t ≡ raised_at (state_of s) v d
state_raised s t v d rest duals = ap state_of rest ∙ ap (λ (y : ℕ → ℤ). record (state_of s) { dual = y }) duals

-- an end of an edge that joins exposed vertices is exposed
pub end_exposed : (s : State) (v e : ℕ) → touches (edge_of s.graph e) v ≡ true → JoinsExposed s e → IsExposed s v
end_exposed s v e t j = ⊎_elim
    (λ q. subst (IsExposed s) (eqb-true (edge_of s.graph e).u v q) j.u)
    (λ q. subst (IsExposed s) (eqb-true (edge_of s.graph e).v v q) j.v)
    (or_cases (eqb (edge_of s.graph e).u v) (eqb (edge_of s.graph e).v v) t)

-- where two more vertices are matched, what joins exposed vertices still did so before
pub joins_before : (u t : Search) (e : ℕ) → t ≡ record u { mates = t.mates } → ((a : ℕ) → IsExposed (state_of t) a → IsExposed (state_of u) a) → JoinsExposed (state_of t) e
    → JoinsExposed (state_of u) e
joins_before u t e rest free j =
    let here = subst (λ (x : Search). JoinsExposed (state_of x) e) rest j in
    let before : (a : ℕ) → IsExposed (state_of (record u { mates = t.mates })) a → IsExposed (state_of u) a =
    λ a x. free a (subst (λ (y : Search). IsExposed (state_of y) a) (sym rest) x) in
    record { tight = record { edge = here.tight.edge; tight = here.tight.tight }; u = before (edge_of u.graph e).u here.u; v = before (edge_of u.graph e).v here.v }
