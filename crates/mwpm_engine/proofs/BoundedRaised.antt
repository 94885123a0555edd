-- In the pass with weights a change raises the sum of all duals by no less than it moves any of them, and that sum is
-- bounded, so no dual moves far.
use Rattle.alt_forest.proofs.Common.{◌≡◌, ◌≢◌, ℕ, zero, suc, ◌*◌, ◌≤◌, ℤ, pos, neg_ℤ, ◌+ℤ◌, ◌-ℤ◌, ◌*ℤ◌, ◌≤ℤ◌, Bool, true, false}
use Rattle.alt_forest.proofs.Common.{◌||◌, cond, refl, sym, ap, subst, arith, ints, both_ways, GRAPH_VERTEX_LIMIT, WEIGHT_LIMIT, IsGraph, HasNoLoop, holds, times-le, times-suc}
use Rattle.alt_forest.proofs.Common.{times-neg, IsNumber, IsNested, is_node, is_vertex, is_outermost, names_of, by_test, outermost_parts, Label, Outer, Inner, Out, State, IsSearchState}
use Rattle.alt_forest.proofs.Common.{slack_with, tree_count, IsPlanted, low_at}
use Rattle.dual_change.specs.Changes.{share, change, applied, IsWithin, StaysInRange}
use Rattle.alt_forest.specs.Totals.{dual_total}
use Rattle.dual_change.proofs.Total.{change_raises}
use Rattle.dual_change.proofs.Applied.{applied_state}
use Rattle.search_start.specs.Bounds.{IsRaised}
use Rattle.mwpm_engine.specs.Solutions.{IsWithinBound}
use Rattle.mwpm_engine.proofs.BoundedTotal.{total_bound, weight_bound}

-- no change moves a dual farther than by itself
between : (s : State) (d : ℤ) (a : ℕ) → pos 0 ≤ℤ d → ((pos 0 -ℤ d) ≤ℤ change s d a) × (change s d a ≤ℤ d)
between s d a low = by_test (is_outermost s.graph.vertices s.blossoms a)
    (λ t. subst (λ x. ((pos 0 -ℤ d) ≤ℤ x) × (x ≤ℤ d)) (sym (ap (λ q. cond q (share d (s.label a)) (pos 0)) t)) (by_label (s.label a)))
    (λ t. subst (λ x. ((pos 0 -ℤ d) ≤ℤ x) × (x ≤ℤ d)) (sym (ap (λ q. cond q (share d (s.label a)) (pos 0)) t)) (omega (arith, ints, low), omega (arith, ints, low)))
  where
    by_label : (l : Label) → ((pos 0 -ℤ d) ≤ℤ share d l) × (share d l ≤ℤ d)
    by_label Outer = (omega (arith, ints, low), omega (arith, ints))
    by_label Inner = (omega (arith, ints), omega (arith, ints, low))
    by_label Out = (omega (arith, ints, low), omega (arith, ints, low))

-- some trees times a change are no less than the change
pub times_some : (k : ℕ) (d : ℤ) → k ≢ 0 → pos 0 ≤ℤ d → d ≤ℤ (pos k *ℤ d)
times_some zero d some low = absurd (some refl)
times_some (suc k) d some low =
    let more = times-suc k d in let rest = times-le k (pos 0) d low in
    let none : pos k *ℤ pos 0 ≡ pos 0 = omega (arith, ints) in
    omega (arith, ints, more, rest, none)

-- a change moves no bound by less than itself, where there is some tree
raised_more : (s : State) (start : ℤ) (depth : ℕ → ℕ) (d : ℤ) → IsNested s.graph.vertices s.blossoms → IsSearchState s depth → tree_count s ≢ 0 → pos 0 ≤ℤ d → IsRaised s start
    → IsRaised (applied s d) start
raised_more s start depth d nested st some low h =
    let more : d ≤ℤ (pos (tree_count s) *ℤ d) = times_some (tree_count s) d some low in
    record {
      weighted = h.weighted;
      perfect = h.perfect;
      start_weight = h.start_weight;
      raised = h.raised +ℤ (pos (tree_count s) *ℤ d);
      low = let was = h.low in added _ _ low more was;
      total = plain _ _ _ _ _ (change_raises s depth d nested st) h.total;
      vertices = λ v is. moved (s.dual v) (change s d v) h.raised _ more (h.vertices v is) (between s d v low);
      blossoms = λ b name. within (s.dual b) (change s d b) h.raised _ more (h.blossoms b name) (between s d b low).1;
    }
  where
    added : (r t : ℤ) → pos 0 ≤ℤ d → d ≤ℤ t → pos 0 ≤ℤ r → pos 0 ≤ℤ (r +ℤ t)
    added r t a b e = omega (arith, ints, a, b, e)

    plain : (new old t x r : ℤ) → new ≡ old +ℤ t → old ≡ x +ℤ r → new ≡ x +ℤ (r +ℤ t)
    plain new old t x r e g = omega (arith, ints, e, g)

    moved : (y c r t : ℤ) → d ≤ℤ t → ((start -ℤ r) ≤ℤ y) × (y ≤ℤ (start +ℤ r)) → ((pos 0 -ℤ d) ≤ℤ c) × (c ≤ℤ d) → ((start -ℤ (r +ℤ t)) ≤ℤ (y +ℤ c)) × ((y +ℤ c) ≤ℤ (start +ℤ (r +ℤ t)))
    moved y c r t more b m = (omega (arith, ints, more, b.0, m.0), omega (arith, ints, more, b.1, m.1))

    within : (y c r t : ℤ) → d ≤ℤ t → y ≤ℤ r → c ≤ℤ d → (y +ℤ c) ≤ℤ (r +ℤ t)
    within y c r t more b m = omega (arith, ints, more, b, m)

-- the sum of all duals rises by at most twice the limit of weights for each vertex
pub raised_at_most : (s : State) (start : ℤ) (depth : ℕ → ℕ) → IsGraph s.graph → IsNested s.graph.vertices s.blossoms → IsSearchState s depth → (h : IsRaised s start)
    → h.raised ≤ℤ (pos (2 * s.graph.vertices) *ℤ WEIGHT_LIMIT)
raised_at_most s start depth graph nested st h =
    let n : ℕ = s.graph.vertices in let counts = h.perfect.0 in
    let total : dual_total s ≤ℤ _ = total_bound s.graph counts graph h.perfect.1 s.dual s.blossoms nested st.duals
    (λ e is. subst (λ t. pos 0 ≤ℤ slack_with s.graph t s.dual s.blossoms e) h.weighted (st.slacks e is)) in
    let most = weight_bound s.graph counts graph h.perfect.1 in
    let least : (pos n *ℤ neg_ℤ WEIGHT_LIMIT) ≤ℤ (pos n *ℤ start) = times-le n (neg_ℤ WEIGHT_LIMIT) start h.start_weight.0 in
    plain n (dual_total s) _ (pos n *ℤ start) h.raised total most least (times-neg n WEIGHT_LIMIT) h.total
  where
    plain : (n : ℕ) (t w x r : ℤ) → t ≤ℤ w → w ≤ℤ (pos n *ℤ WEIGHT_LIMIT) → (pos n *ℤ neg_ℤ WEIGHT_LIMIT) ≤ℤ x → pos n *ℤ neg_ℤ WEIGHT_LIMIT ≡ neg_ℤ (pos n *ℤ WEIGHT_LIMIT)
        → t ≡ x +ℤ r → r ≤ℤ (pos (2 * n) *ℤ WEIGHT_LIMIT)
    plain n t w x r a b c e f = omega (arith, ints, a, b, c, e, f)

-- with n vertices no dual is farther from 0 than 2n + 1 times the limit of weights: once for the start, and the rest for the changes
pub duals_bounded : (s : State) (start : ℤ) (depth : ℕ → ℕ) → IsGraph s.graph → IsNested s.graph.vertices s.blossoms → IsSearchState s depth → IsRaised s start
    → (a : ℕ) → is_node s.graph.vertices s.blossoms a ≡ true → IsWithinBound s.graph.vertices (s.dual a)
duals_bounded s start depth graph nested st h a is =
    let n : ℕ = s.graph.vertices in let most = raised_at_most s start depth graph nested st h in
    by_test (is_vertex n a)
    (λ v. let b = h.vertices a v in vertex n start h.raised (s.dual a) h.start_weight.0 h.start_weight.1 most b.0 b.1)
    (λ v. let name : holds (names_of s.blossoms) a ≡ true = named (is_vertex n a) (holds (names_of s.blossoms) a) v is in
    blossom n h.raised (s.dual a) most (low_at s.dual s.blossoms a st.duals name) (h.blossoms a name))
  where
    named : (p q : Bool) → p ≡ false → (p || q) ≡ true → q ≡ true
    named false q e h = h
    named true q e h = absurd (both_ways true e refl)

    vertex : (n : ℕ) (x r y : ℤ) → neg_ℤ WEIGHT_LIMIT ≤ℤ x → x ≤ℤ WEIGHT_LIMIT → r ≤ℤ (pos (2 * n) *ℤ WEIGHT_LIMIT) → (x -ℤ r) ≤ℤ y → y ≤ℤ (x +ℤ r)
        → IsWithinBound n y
    vertex n x r y a b c e f = (omega (arith, ints, a, b, c, e, f), omega (arith, ints, a, b, c, e, f))

    blossom : (n : ℕ) (r y : ℤ) → r ≤ℤ (pos (2 * n) *ℤ WEIGHT_LIMIT) → pos 0 ≤ℤ y → y ≤ℤ r → IsWithinBound n y
    blossom n r y a b c = (omega (arith, ints, a, b, c), omega (arith, ints, a, b, c))

-- with at most as many vertices as a graph can have that lies well within the range of duals
in_room : (n : ℕ) (y : ℤ) → n ≤ GRAPH_VERTEX_LIMIT → IsWithinBound n y → IsNumber y
in_room n y few b = (omega (arith, ints, few, b.0), omega (arith, ints, few, b.1))

-- a change in the pass with weights
pub raised_in_range : (s : State) (start : ℤ) (depth : ℕ → ℕ) (d : ℤ) → IsGraph s.graph → HasNoLoop s.graph → s.graph.vertices ≤ GRAPH_VERTEX_LIMIT
    → IsNested s.graph.vertices s.blossoms → IsSearchState s depth → IsPlanted s → tree_count s ≢ 0 → IsWithin s d → IsRaised s start → StaysInRange s d × IsRaised (applied s d) start
raised_in_range s start depth d graph plain few nested st planted some within h =
    let new : IsRaised (applied s d) start = raised_more s start depth d nested st some within.low h in
    let state : IsSearchState (applied s d) depth = applied_state s d graph nested depth st plain planted within in (
      λ a outer. in_room s.graph.vertices ((applied s d).dual a) few
          (duals_bounded (applied s d) start depth graph nested state new a (outermost_parts s.graph.vertices s.blossoms a outer).0),
      new,
    )
