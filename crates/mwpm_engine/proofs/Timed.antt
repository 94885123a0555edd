-- The clock of a pass is at most what the sum of all duals has risen by, which is bounded.
use Rattle.alt_forest.proofs.Common.{◌≡◌, ◌≢◌, ◌∙◌, ℕ, ◌*◌, ◌≤◌, ℤ, pos, ◌+ℤ◌, ◌*ℤ◌, ◌≤ℤ◌, sym, ap, arith, ⊎_elim, ints, both_ways}
use Rattle.alt_forest.proofs.Common.{GRAPH_VERTEX_LIMIT, NUMBER_LIMIT, WEIGHT_LIMIT, Multigraph, IsGraph, IsNested, State, IsSearchState, tree_count}
use Rattle.dual_change.specs.declared.event.Event.{Event}
use Rattle.dual_change.specs.Changes.{applied, IsWithin, IsPossible}
use Rattle.alt_forest.specs.Totals.{dual_total}
use Rattle.dual_change.proofs.Total.{change_raises}
use Rattle.search_start.specs.Bounds.{IsBounded}
use Rattle.mwpm_engine.specs.Passes.{IsTimed}
use Rattle.mwpm_engine.proofs.BoundedRaised.{raised_at_most, times_some}
use Rattle.mwpm_engine.proofs.BoundedZero.{no_change}

-- a forest is planted with the clock at 0
pub timed_first : (s : State) (start clock : ℤ) → clock ≡ pos 0 → IsBounded s start → IsTimed s start clock
timed_first s start clock zero bounded = record {
  unweighted = λ u. zero;
  weighted = λ w. ⊎_elim
      (λ h. absurd (both_ways s.weighted h.unweighted w))
      (λ h. let total = h.total in let low = h.low in omega (arith, ints, zero, total, low))
      bounded;
}

-- a step that keeps the sum of all duals
pub timed_same : (s t : State) (start clock : ℤ) → t.graph ≡ s.graph → t.weighted ≡ s.weighted → dual_total t ≡ dual_total s → IsTimed s start clock → IsTimed t start clock
timed_same s t start clock graph weighted total h = record {
  unweighted = λ u. h.unweighted (sym weighted ∙ u);
  weighted = λ w.
      let was = h.weighted (sym weighted ∙ w) in
      let base : pos t.graph.vertices *ℤ start ≡ pos s.graph.vertices *ℤ start = ap (λ (g : Multigraph). pos g.vertices *ℤ start) graph in
      omega (arith, ints, was, base, total);
}

-- a change of the duals that leads to an event moves the clock by no more than it raises the sum of all duals
pub timed_applied : (s : State) (start clock d : ℤ) (depth : ℕ → ℕ) (event : Event) → IsGraph s.graph → IsNested s.graph.vertices s.blossoms → IsSearchState s depth → tree_count s ≢ 0
    → IsBounded s start → IsWithin s d → IsPossible (applied s d) event
    → IsTimed s start clock → IsTimed (applied s d) start (clock +ℤ d)
timed_applied s start clock d depth event graph nested st some bounded within can h = record {
  unweighted = λ u. ⊎_elim
      (λ none. let zero = no_change s graph none d event within can in let was = h.unweighted u in omega (arith, ints, zero, was))
      (λ raised. absurd (both_ways s.weighted u raised.weighted))
      bounded;
  weighted = λ w.
      let was = h.weighted w in let rises = change_raises s depth d nested st in
      plain _ _ _ _ _ rises (times_some (tree_count s) d some within.low) was;
}
  where
    plain : (new old t c x : ℤ) → new ≡ old +ℤ t → d ≤ℤ t → (c +ℤ x) ≤ℤ old → ((c +ℤ d) +ℤ x) ≤ℤ new
    plain new old t c x e f g = omega (arith, ints, e, f, g)

-- the clock stays in range
pub clock_fits : (s : State) (start clock : ℤ) (depth : ℕ → ℕ) → IsGraph s.graph → s.graph.vertices ≤ GRAPH_VERTEX_LIMIT → IsNested s.graph.vertices s.blossoms → IsSearchState s depth
    → IsBounded s start → IsTimed s start clock → clock ≤ℤ NUMBER_LIMIT
clock_fits s start clock depth graph few nested st bounded h = ⊎_elim
    (λ none. let zero = h.unweighted none.unweighted in omega (arith, ints, zero))
    (λ raised.
    let most = raised_at_most s start depth graph nested st raised in let total = raised.total in
    let here = h.weighted raised.weighted in
    plain s.graph.vertices (dual_total s) (pos s.graph.vertices *ℤ start) raised.raised few most total here)
    bounded
  where
    plain : (n : ℕ) (t x r : ℤ) → n ≤ GRAPH_VERTEX_LIMIT → r ≤ℤ (pos (2 * n) *ℤ WEIGHT_LIMIT) → t ≡ x +ℤ r → (clock +ℤ x) ≤ℤ t → clock ≤ℤ NUMBER_LIMIT
    plain n t x r a b e f = omega (arith, ints, a, b, e, f)
