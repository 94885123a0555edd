-- The edges that a tour uses an even number of times are a join on the vertices of odd degree, and that
-- many edges more than once each weigh no less, where no edge weighs less than 0.
use Rattle.mb_problem.proofs.Common.{◌≡◌, ℕ, ◌+◌, ◌-◌, ◌*◌, ◌/◌, ◌%◌, ◌<◌, ◌≤◌, ℤ, pos, ◌+ℤ◌, ◌-ℤ◌, ◌*ℤ◌, ◌≤ℤ◌, true, eqb}
use Rattle.mb_problem.proofs.Common.{refl, ap, ◌∙◌, arith, List, [], length, slice_index, replicate, All, ints, get_or-replicate, length-map, int_sum_to, Edge, edge_at, ends_at}
use Rattle.mb_problem.proofs.Common.{weight, IsEdgeNumber, holds, walk_end, walk_weight, IsClosedWalk, sum_to-add, sum_to-parity, int_sum_to-add, int_sum_to-le, plus-times, times-le}
use Rattle.mb_problem.proofs.Common.{walk-numbers, Network, IsNetwork, graph_of, plain, instance_edge_at, no_instance_edge, odd_at, edge_at-graph_of, total_weight, IsJoinOf}
use Rattle.mb_problem.proofs.Common.{HasWeightsFromZero, one_if}
use Rattle.mb_problem.specs.declared.answer.Answer.TheVariants.{Counts, Walk, Nothing}
use Rattle.gadget_base.proofs.Common.{tabled, ports_graph, ReachesAll, times, times_each, tabled-length, tabled-at, All-tabled, held-times, times_each-at, times-weight}
use Rattle.mb_problem.specs.declared.kind.Kind.TheVariants.{Postman}
use Rattle.mb_problem.specs.declared.answer.Parity.{Parity}
use Rattle.mb_problem.specs.declared.answer.Parity.TheVariants.{OddDegrees}
use Rattle.gadget_tjoin.proofs.WalkParity.{walk-parity}
use Rattle.gadget_tjoin.proofs.Places.{graph-within, degree-here, here}
use Rattle.gadget_tjoin.proofs.Laws.{reaches-joins}

-- 1 for each edge that a walk uses an even number of times
abbrev pub evenly : Network → List ℕ → List ℕ
evenly i es = tabled (λ k. (times es (k + 1) + 1) % 2) (length i.edges)

evenly-at : (i : Network) (es : List ℕ) (k : ℕ) → k < length i.edges → slice_index (evenly i es) k ≡ (times es (k + 1) + 1) % 2
evenly-at i es k b = tabled-at (λ k. (times es (k + 1) + 1) % 2) (length i.edges) k 0 b

all-times : (i : Network) (es : List ℕ) (k : ℕ) → k < length i.edges → slice_index (times_each (graph_of i) es) k ≡ times es (k + 1)
all-times i es k b = times_each-at (graph_of i) es k (let size = length-map i.edges plain in omega (arith, size, b))

-- an edge that isn't counted where it is used an odd number of times
turned : (t a : ℕ) → ((t + 1) % 2 * a + t * a) % 2 ≡ a % 2
turned t a =
    let r = (t + 1) % 2 in
    let h = (t + r) / 2 in
    let e : t + r ≡ 2 * h + 1 = omega arith in
    let sum : r * a + t * a ≡ (t + r) * a = grind arith in
    let split : (2 * h + 1) * a ≡ 2 * (h * a) + a = grind arith in
    let same : (t + r) * a ≡ (2 * h + 1) * a = ap (λ (y : ℕ). y * a) e in
    omega (arith, sum, split, same)

pub evenly-join : (i : Network) (v : ℕ) (es : List ℕ) → IsNetwork i → IsClosedWalk (graph_of i) v es → IsJoinOf OddDegrees i (evenly i es)
evenly-join i v es ok closed = record {
  one_each = tabled-length (λ k. (times es (k + 1) + 1) % 2) (length i.edges);
  at_most_once = All-tabled (λ c. c ≤ 1) (λ k. (times es (k + 1) + 1) % 2) (length i.edges) (λ k b. omega arith);
  degrees = λ x low high.
      let m = length i.edges in
      let at : ℕ → ℕ = λ k. ends_at (here i k) x in
      let own = degree-here i (evenly i es) x in
      let walk = degree-here i (times_each (graph_of i) es) x in
      let all = degree-here i (replicate m 1) x in
      let both = sum_to-add (λ k. slice_index (evenly i es) k * at k) (λ k. slice_index (times_each (graph_of i) es) k * at k) m in
      let agree = sum_to-parity (λ k. slice_index (evenly i es) k * at k + slice_index (times_each (graph_of i) es) k * at k) (λ k. slice_index (replicate m 1) k * at k) m
      (λ k b.
      let a = evenly-at i es k b in
      let t = all-times i es k b in
      let one : slice_index (replicate m 1) k ≡ 1 = get_or-replicate m k 1 0 b in
      let parity = turned (times es (k + 1)) (at k) in
      let once : 1 * at k ≡ at k = omega arith in
      rw (a, t, one, once) parity) in
      let even = walk-parity (graph_of i) v x es (graph-within i ok) closed.0 in
      let home : one_if (eqb (walk_end (graph_of i) v es) x) ≡ one_if (eqb v x) = ap (λ (y : ℕ). one_if (eqb y x)) closed.1 in
      omega (arith, own, walk, all, both, agree, even, home);
}

-- used at least once, with one time more where that is even
at_least : (t : ℕ) (w : ℤ) → 1 ≤ t → pos 0 ≤ℤ w → (pos ((t + 1) % 2) *ℤ w +ℤ pos 1 *ℤ w) ≤ℤ (pos t *ℤ w)
at_least t w some low =
    let r = (t + 1) % 2 in
    let rest = t - 1 - r in
    let e : t ≡ r + 1 + rest = omega arith in
    let whole : pos t *ℤ w ≡ pos (r + 1 + rest) *ℤ w = ap (λ (a : ℕ). pos a *ℤ w) e in
    let split = plus-times (r + 1) rest w in
    let again = plus-times r 1 w in
    let more = times-le rest (pos 0) w low in
    let none : pos rest *ℤ pos 0 ≡ pos 0 = omega (arith, ints) in
    omega (arith, ints, whole, split, again, more, none)

-- a walk that uses each edge weighs at least all edges and that join
pub evenly-weight : (i : Network) (es : List ℕ) → All (IsEdgeNumber (graph_of i)) es → ((e : ℕ) → 1 ≤ e → e ≤ length i.edges → holds es e ≡ true) → HasWeightsFromZero i
    → (weight (graph_of i) (evenly i es) +ℤ total_weight i) ≤ℤ walk_weight (graph_of i) es
evenly-weight i es numbers all low =
    let g = graph_of i in
    let m = length g.edges in
    let size = length-map i.edges plain in
    let w : ℕ → ℤ = λ k. (edge_at g k).w in
    let both = int_sum_to-add (λ k. pos (slice_index (evenly i es) k) *ℤ w k) (λ k. pos (slice_index (replicate (length i.edges) 1) k) *ℤ w k) m in
    let below = int_sum_to-le (λ k. pos (slice_index (evenly i es) k) *ℤ w k +ℤ pos (slice_index (replicate (length i.edges) 1) k) *ℤ w k) (λ k. pos (times es (k + 1)) *ℤ w k) m
    (λ k b.
    let place : k < length i.edges = omega (arith, size, b) in
    let a = evenly-at i es k place in
    let one : slice_index (replicate (length i.edges) 1) k ≡ 1 = get_or-replicate (length i.edges) k 1 0 place in
    let heavy : pos 0 ≤ℤ w k = let e = edge_at-graph_of i k in let h : pos 0 ≤ℤ (instance_edge_at i k).w = low k no_instance_edge place in let same : w k ≡ (instance_edge_at i k).w =
    ap (λ (x : Edge). x.w) e in omega (arith, ints, h, same) in
    let some = held-times es (k + 1) (all (k + 1) (omega arith) (omega (arith, place))) in
    rw (a, one) (at_least (times es (k + 1)) (w k) some heavy)) in
    omega (arith, ints, both, below, times-weight g es numbers)

nothing-used : (i : Network) → length i.edges ≡ 0 → (weight (graph_of i) (evenly i []) +ℤ total_weight i) ≤ℤ pos 0
nothing-used i none =
    let g = graph_of i in
    let size : length g.edges ≡ 0 = length-map i.edges plain ∙ none in
    let one : weight g (evenly i []) ≡ pos 0 = ap (int_sum_to (λ k. pos (slice_index (evenly i []) k) *ℤ (edge_at g k).w)) size in
    let other : total_weight i ≡ pos 0 = ap (int_sum_to (λ k. pos (slice_index (replicate (length i.edges) 1) k) *ℤ (edge_at g k).w)) size in
    omega (arith, ints, one, other)

twice-less : (a b c d : ℤ) → a ≡ b → (b +ℤ c) ≤ℤ d → (pos 2 *ℤ a) ≤ℤ (pos 2 *ℤ (d -ℤ c))
twice-less a b c d e h = omega (arith, ints, e, h)

tours-reached : (i : Network) → IsNetwork i → HasWeightsFromZero i → ReachesAll Postman i
tours-reached i ok low (Counts counts) h = absurd h
tours-reached i ok low (Walk start edges) tour =
    let r = reaches-joins OddDegrees i ok (evenly i edges) (evenly-join i start edges ok tour.closed) in
    let less = evenly-weight i edges (walk-numbers (graph_of i) start edges tour.closed.0) tour.all low in
    record {
      counts = r.counts;
      perfect = r.perfect;
      weighs = twice-less (weight (ports_graph i (odd_at OddDegrees i)) r.counts) (weight (graph_of i) (evenly i edges)) (total_weight i) (walk_weight (graph_of i) edges) r.weighs less;
    }
tours-reached i ok low Nothing none =
    let r = reaches-joins OddDegrees i ok (evenly i []) (evenly-join i 0 [] ok (tt, refl)) in
    record {
      counts = r.counts;
      perfect = r.perfect;
      weighs = twice-less (weight (ports_graph i (odd_at OddDegrees i)) r.counts) (weight (graph_of i) (evenly i [])) (total_weight i) (pos 0) r.weighs (nothing-used i none);
    }

pub reaches_tours : (parity : Parity) (i : Network) → IsNetwork i → parity ≡ OddDegrees → HasWeightsFromZero i → ReachesAll Postman i
reaches_tours parity i ok is low = tours-reached i ok low
