-- How many steps a phase counts at most.
use Rattle.alt_forest.proofs.Common.{◌≡◌, ◌≢◌, ◌⊎◌, ℕ, ◌+◌, ◌*◌, ◌≤◌, eqb, cond, List, [], ◌∷◌, length, subst, arith, inl, inr}
use Rattle.alt_forest.proofs.Common.{All, list_any, mul-le, eqb-true, eqb-false, Multigraph, IsGraph, IsEdgeNumber, IsEdgeWithin, HasNoLoop, edge_of, edges_around, edge_of_within, sum_to-le}
use Rattle.alt_forest.proofs.Common.{sum_to-most, one_if-most, Blossom, Family, by_test, blossoms_most, State, IsOutermost, HasShape, state_of, is_outside, outside_vertices, outside_among}
use Rattle.alt_forest.proofs.Common.{measure, entry_count, looks_left, outside_ends, all_ends, nested_of, outer_range}
use Rattle.alt_forest.specs.declared.search.Search.{Search}
use Rattle.dual_change.specs.declared.event.Event.{Event}
use Rattle.dual_change.specs.declared.event.Event.TheVariants.{Grow, Shrink, Augment, Expand}
use Rattle.augment.proofs.Joined.{none_entered}
use Rattle.mwpm_engine.specs.Solutions.{size_of_graph}
use Rattle.mwpm_engine.specs.Passes.{IsReady, account, steps_to, phase_steps}
use Rattle.search_start.proofs.FarEnds.{ends_differ}
use Rattle.search_start.proofs.FirstTurns.{turn_most}

-- products

pub times_le : (a b k : ℕ) → a ≤ b → a * k ≤ b * k
times_le a b k low = mul-le a k b k low (omega arith)

-- what is left for a tree to take in: at most each vertex, and each blossom

outside_most : (s : State) → outside_vertices s ≤ s.graph.vertices
outside_most s =
    let most = sum_to-most (λ i. cond (is_outside s (i + 1)) 1 0) 1 s.graph.vertices (λ i low. one_if-most (is_outside s (i + 1))) in
    omega (arith, most)

pub among_most : (s : State) (bs : List Blossom) → outside_among s bs ≤ length bs
among_most s [] = omega arith
among_most s (b ∷ older) = omega (arith, among_most s older, one_if-most (list_any (is_outside s) b.members))

pub left_most : (s : State) → measure s ≤ s.graph.vertices + length s.blossoms
left_most s = omega (arith, outside_most s, among_most s s.blossoms)

-- the looks that are left: at most two for each edge, and two more with each blossom

pub looks_most : (s : State) → All (IsEdgeWithin s.graph.vertices) s.graph.edges → looks_left s ≤ 2 * length s.graph.edges + 2 * length s.graph.edges * length s.blossoms
looks_most s ends =
    let some = sum_to-le (λ i. cond (is_outside s (i + 1)) (length (edges_around s.graph (i + 1))) 0) (λ i. length (edges_around s.graph (i + 1))) s.graph.vertices
    (λ i low. turn_most (is_outside s (i + 1)) (length (edges_around s.graph (i + 1)))) in
    let all = all_ends s.graph ends in
    let rest = times_le (outside_among s s.blossoms) (length s.blossoms) (2 * length s.graph.edges) (among_most s s.blossoms) in
    plain (outside_ends s) (length s.graph.edges) (outside_among s s.blossoms) (length s.blossoms) (omega (arith, some, all)) rest
  where
    plain : (x m a b : ℕ) → x ≤ 2 * m → a * (2 * m) ≤ b * (2 * m) → x + 2 * m * a ≤ 2 * m + 2 * m * b
    plain x m a b p q = omega (arith, p, q)

-- What is there when the forest is planted pays for all rounds of a phase but the last.

begins_paid : (old new first entries begin looks left most ends : ℕ) → first ≡ 0 → new + looks ≤ old + begin → entries + old ≤ first + new → left ≤ most → begin ≤ ends
    → new + entries + 2 * looks + 2 * left ≤ old + (2 * ends + 2 * most)
begins_paid old new first entries begin looks left most ends none look count small few = omega (arith, none, look, count, small, few)

-- the blossoms are fewer than half of the vertices, where there is a node at all
pub few_blossoms : (s : Search) (a : ℕ) → HasShape s → IsOutermost (state_of s) a → 2 * length s.arena.blossoms + 1 ≤ s.graph.vertices
few_blossoms s a h is =
    let range = outer_range s a h is in
    let most = blossoms_most s.graph.vertices s.arena.blossoms (nested_of s h) in
    omega (arith, range.0, range.1, most)

-- once the forest is planted
pub planted_paid : (s t : Search) (old new a : ℕ) → IsReady s → IsOutermost (state_of s) a → t.arena ≡ record s.arena { motions = t.arena.motions } → t.graph ≡ s.graph
    → new + looks_left (state_of t) ≤ old + looks_left (state_of s) → entry_count t.queue + old ≤ entry_count s.queue + new
    → account t new + 3 ≤ old + phase_steps (size_of_graph s.graph) (length s.arena.blossoms)
planted_paid s t old new a ready is arena graph look count =
    let none : entry_count s.queue ≡ 0 = none_entered s.queue (ready.event_times.empty (λ b out. ready.labels b)) in
    let left : measure (state_of t) ≤ s.graph.vertices + length s.arena.blossoms =
    subst (λ (g : Multigraph). measure (state_of t) ≤ g.vertices + length s.arena.blossoms) graph
    (subst (λ (f : Family). measure (state_of t) ≤ t.graph.vertices + length f.blossoms) arena (left_most (state_of t))) in
    let paid = begins_paid old new (entry_count s.queue) (entry_count t.queue) (looks_left (state_of s)) (looks_left (state_of t)) (measure (state_of t))
    (s.graph.vertices + length s.arena.blossoms) _ none look count left (looks_most (state_of s) ready.sound.shape.graph.graph.ends) in
    plain _ (length s.graph.edges) (length s.arena.blossoms) s.graph.vertices (few_blossoms s a ready.sound.shape is) paid
  where
    plain : (x m b n : ℕ) → 2 * b + 1 ≤ n → x ≤ old + (2 * (2 * m + 2 * m * b) + 2 * (n + b)) → x + 3 ≤ old + (4 * m * (1 + b) + 3 * n + 2)
    plain x m b n few paid = omega (arith, few, paid)

pub steps_few : (event : Event) → steps_to event ≤ 2
steps_few (Grow e) = omega arith
steps_few (Shrink e) = omega arith
steps_few (Augment e) = omega arith
steps_few (Expand b) = omega arith

-- a graph without loops has two vertices or more, or no edge
pub some_or_none : (g : Multigraph) → IsGraph g → HasNoLoop g → (2 ≤ g.vertices) ⊎ (length g.edges ≡ 0)
some_or_none g graph plain = by_test (eqb (length g.edges) 0)
    (λ t. inr (eqb-true (length g.edges) 0 t))
    (λ t.
    let ne = eqb-false (length g.edges) 0 t in
    let number : IsEdgeNumber g 1 = (omega arith, omega (arith, ne)) in
    let w = edge_of_within g 1 graph.ends number in
    let differ : (edge_of g 1).u ≢ (edge_of g 1).v = ends_differ g 1 plain number in
    inl (omega (arith, w.u_low, w.u_high, w.v_low, w.v_high, differ)))
