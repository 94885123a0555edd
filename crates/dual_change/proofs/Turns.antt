-- Each turn after which nothing comes leaves a turn less: the moment of an idle node is dropped, or a vertex is looked at anew.
use Rattle.alt_forest.proofs.Common.{◌≡◌, ◌≢◌, ℕ, ◌+◌, ◌≤◌, ℤ, Bool, true, false, eqb, cond, ◌&&◌, length, Some, None, arith, is_some, nat_tests, both_ways}
use Rattle.alt_forest.proofs.Common.{sum_to, sum_to-le, sum_to-add, sum_to-at_one, sum_to-same, IsNested, is_vertex, outermost, Inner, name_no_vertex, Moments, only_items_have, State}
use Rattle.alt_forest.proofs.Common.{node_limit}
use Rattle.alt_forest.specs.declared.search.Search.{Search}
use Rattle.search_heap.specs.declared.item.Item.TheVariants.{Blossom as OfNode}
use Rattle.search_keys.specs.declared.bounds.EventBounds.{EventBounds}
use Rattle.search_keys.specs.Bounds.{HasPlaces, IsIdle, bound_of}
use Rattle.dual_change.specs.Turns.{is_idle, idle_bounds}

-- how much a test counts
abbrev one_if : Bool → ℕ
one_if t = cond t 1 0

-- of two sums that differ at one place at most the one is lower that is lower there
sum_falls : (f g : ℕ → ℕ) (n a : ℕ) → 1 ≤ a → a ≤ n → ((k : ℕ) → k ≢ a → g k ≤ f k) → g a + 1 ≤ f a → sum_to (λ i. g (i + 1)) n + 1 ≤ sum_to (λ i. f (i + 1)) n
sum_falls f g n a low high others here =
    let one : sum_to (λ i. one_if (eqb a (i + 1))) n ≡ 1 = sum_to-at_one (λ _. 1) a n low high in
    let both = sum_to-add (λ i. g (i + 1)) (λ i. one_if (eqb a (i + 1))) n in
    let less = sum_to-le (λ i. g (i + 1) + one_if (eqb a (i + 1))) (λ i. f (i + 1)) n (λ i t. grind (arith, nat_tests, others (i + 1))) in
    omega (arith, one, both, less)

-- whether an idle node is counted
abbrev counts : State → Moments → ℕ → ℕ
counts s q a = one_if (is_idle s a && is_some (bound_of q a))

-- a vertex of an inner node is idle
pub idle_vertex : (s : State) (v : ℕ) → IsNested s.graph.vertices s.blossoms → is_vertex s.graph.vertices v ≡ true → s.label (outermost s.blossoms v) ≡ Inner → IsIdle s v
idle_vertex s v nested is inner = record {
  vertex = λ _. inner;
  blossom = λ name _ _. both_ways (is_vertex s.graph.vertices v) (name_no_vertex s.graph.vertices s.blossoms v nested name) is;
}

-- and that of another node isn't
busy_vertex : (s : State) (v : ℕ) → is_vertex s.graph.vertices v ≡ true → s.label (outermost s.blossoms v) ≢ Inner → is_idle s v ≡ false
busy_vertex s v is ne = grind (arith, nat_tests)

-- the place of a node that has a moment
pub moment_place : (s : Search) (b : EventBounds) (a : ℕ) (m : ℤ) → HasPlaces s.graph b → bound_of b.moments a ≡ Some m → (1 ≤ a) × (a ≤ node_limit s.graph.vertices)
moment_place s b a m places has =
    let place : (1 ≤ a) × (a ≤ length b.moments.blossoms) = only_items_have b.moments (OfNode a) m has in
    (place.0, omega (arith, place.1, places.nodes))

-- one idle node less has a moment
pub idle_falls : (s : State) (q r : Moments) (a : ℕ) (m : ℤ) → (1 ≤ a) × (a ≤ node_limit s.graph.vertices) → IsIdle s a → bound_of q a ≡ Some m → bound_of r a ≡ None
    → ((k : ℕ) → k ≢ a → bound_of r k ≡ bound_of q k) → idle_bounds s r + 1 ≤ idle_bounds s q
idle_falls s q r a m place idle has none others =
    sum_falls (counts s q) (counts s r) (node_limit s.graph.vertices) a place.0 place.1
    (λ k ne. grind (arith, nat_tests, others k ne)) (grind (arith, nat_tests, idle.vertex, idle.blossom))

-- as many have one where another node's alone is set
pub idle_same : (s : State) (q r : Moments) (v : ℕ) → is_vertex s.graph.vertices v ≡ true → s.label (outermost s.blossoms v) ≢ Inner
    → ((k : ℕ) → k ≢ v → bound_of r k ≡ bound_of q k) → idle_bounds s r ≡ idle_bounds s q
idle_same s q r v is ne others = sum_to-same (λ i. counts s r (i + 1)) (λ i. counts s q (i + 1)) (node_limit s.graph.vertices)
    (λ i low. grind (arith, nat_tests, busy_vertex s v is ne, others (i + 1)))
