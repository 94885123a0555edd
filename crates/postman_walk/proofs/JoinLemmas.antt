-- A join beside all edges: even degrees, and what they weigh together.
use Rattle.mb_problem.proofs.Common.{◌≡◌, ℕ, ◌+◌, ◌*◌, ◌%◌, ◌<◌, ◌≤◌, ℤ, pos, ◌+ℤ◌, ◌*ℤ◌, cond, ap, ◌∙◌, arith, List, length, slice_index}
use Rattle.mb_problem.proofs.Common.{replicate, All, ints, get_or-replicate, IsEdgeNumber, edge_at, ends_at, degree, holds, walk_weight, sum_to-same, sum_to-add, int_sum_to-same}
use Rattle.mb_problem.proofs.Common.{int_sum_to-add, plus-times, Network, vertices, graph_of, odd_at, ListsJoin, listed_counts, total_weight, edges-count, listed-at}
use Rattle.gadget_base.proofs.Common.{times, ascending-times, times-weight}
use Rattle.mb_problem.specs.declared.answer.Parity.TheVariants.{OddDegrees}
use Rattle.postman_walk.specs.Tours.{UsesOnceAndJoinTwice}

once_more : (a b c s t : ℕ) → s ≡ 1 + t → a ≡ 1 → b ≡ t → s * c ≡ a * c + b * c
once_more a b c s t whole one other =
    let sum : s ≡ a + b = omega (arith, whole, one, other) in
    let split : (a + b) * c ≡ a * c + b * c = grind arith in
    ap (λ (y : ℕ). y * c) sum ∙ split

-- all edges and the join have even degrees
pub uses-even : (i : Network) (join uses : List ℕ) → ListsJoin i (odd_at OddDegrees i) join
    → ((k : ℕ) → k < length i.edges → slice_index uses k ≡ 1 + cond (holds join (k + 1)) 1 0) → (v : ℕ) → 1 ≤ v → v ≤ vertices i
    → degree (graph_of i) uses v % 2 ≡ 0
uses-even i join uses lists each v low high =
    let g = graph_of i in
    let m = length i.edges in
    let at : ℕ → ℕ = λ k. ends_at (edge_at g k) v in
    let parts = sum_to-same (λ k. slice_index uses k * at k) (λ k. slice_index (replicate m 1) k * at k + slice_index (listed_counts join m) k * at k) (length g.edges)
    (λ k b.
    let place : k < m = omega (arith, edges-count i, b) in
    once_more (slice_index (replicate m 1) k) (slice_index (listed_counts join m) k) (at k) (slice_index uses k) (cond (holds join (k + 1)) 1 0) (each k place)
    (get_or-replicate m k 1 0 place) (listed-at join m k 0 place)) in
    let both = sum_to-add (λ k. slice_index (replicate m 1) k * at k) (λ k. slice_index (listed_counts join m) k * at k) (length g.edges) in
    omega (arith, parts, both, lists.join.degrees v low high)

-- a walk that uses each edge once and the join twice weighs all edges and the join
pub uses-weigh : (i : Network) (odd : ℕ → ℕ) (join walk : List ℕ) → ListsJoin i odd join → All (IsEdgeNumber (graph_of i)) walk → UsesOnceAndJoinTwice i join walk
    → walk_weight (graph_of i) walk ≡ total_weight i +ℤ walk_weight (graph_of i) join
uses-weigh i odd join walk lists numbers uses =
    let g = graph_of i in
    let m = length g.edges in
    let n = length i.edges in
    let w : ℕ → ℤ = λ k. (edge_at g k).w in
    let parts = int_sum_to-same (λ k. pos (times walk (k + 1)) *ℤ w k) (λ k. pos (slice_index (replicate n 1) k) *ℤ w k +ℤ pos (times join (k + 1)) *ℤ w k) m
    (λ k b.
    let place : k < n = omega (arith, edges-count i, b) in
    let one : slice_index (replicate n 1) k ≡ 1 = get_or-replicate n k 1 0 place in
    let sum : times walk (k + 1) ≡ slice_index (replicate n 1) k + times join (k + 1) = let u = uses k place in omega (arith, u, one, ascending-times join (k + 1) lists.ascending) in
    ap (λ (c : ℕ). pos c *ℤ w k) sum ∙ plus-times (slice_index (replicate n 1) k) (times join (k + 1)) (w k)) in
    let both = int_sum_to-add (λ k. pos (slice_index (replicate n 1) k) *ℤ w k) (λ k. pos (times join (k + 1)) *ℤ w k) m in
    omega (arith, ints, parts, both, times-weight g walk numbers, times-weight g join lists.in_range)
