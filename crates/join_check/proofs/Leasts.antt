-- A join and a forest that prove each other: no join of this parity weighs less.
use Rattle.mb_problem.proofs.Common.{◌≡◌, ◌≢◌, ℕ, zero, suc, ◌+◌, ◌*◌, ◌%◌, ◌<◌, ◌≤◌, ℤ, pos, nat_abs, ◌*ℤ◌, ◌≤ℤ◌, Bool, true, false, ◌&&◌, cond, eqb, ltb}
use Rattle.mb_problem.proofs.Common.{refl, ap, sym, ◌∙◌, inl, inr, arith, ints, List, length, slice_index, cases_eq, cond-true, cond-false, lt-ltb, le-ltb}
use Rattle.mb_problem.proofs.Common.{sum_to, int_sum_to, sum_to-same, int_sum_to-same, int_sum_to-pos, Edge, IsEdgeWithin, edge_at, ends_at, degree, weight, walk_weight, edge_at-within}
use Rattle.mb_problem.proofs.Common.{Network, IsNetwork, graph_of, vertices, odd_at, IsJoinOf, edges-count, network-graph}
use Rattle.mb_problem.proofs.CountBounds.{once}
use Rattle.mb_problem.specs.declared.answer.Parity.{Parity}
use Rattle.join_check.specs.declared.levels.Levels.{Levels}
use Rattle.join_check.specs.Forests.{node_count, length_of, before_of, node_of, height_of, meet_at, below_at, depth, top_of, holds_node, is_turned, turned_odd}
use Rattle.join_check.specs.Forests.{odd_held, IsForest, IsPlaced, IsWide, ProvesJoin}
use Rattle.join_check.specs.Least.{IsLeastJoin}
use Rattle.join_check.proofs.Parted.{parted}
use Rattle.join_check.proofs.Nodes.{AreNodes, above, under, under-own, under-other, above-own, way-within}
use Rattle.join_check.proofs.Packing.{packed}
use Rattle.join_check.proofs.Turned.{counts_turned, degree-turned, weight-turned, signed, magnitude-is, nat_abs-is}
use Rattle.graph_theory.proofs.BlockSums.{cond_off}

-- lengths and heights as natural numbers

abbrev pub len_of : Levels → ℕ → ℕ
len_of f b = nat_abs (length_of f b)

abbrev pub high_at : Levels → ℕ → ℕ
high_at f v = nat_abs (height_of f v)

abbrev pub under_at : Levels → ℕ → ℕ → ℕ
under_at f b v = under (before_of f) (len_of f) (node_of f v) (high_at f v) b

pub are-nodes : (f : Levels) → IsForest f → AreNodes (before_of f) (node_count f)
are-nodes f forest = record { earlier = forest.earlier; nested = forest.nested }

below-term : (p q : Bool) (h l : ℤ) → pos 0 ≤ℤ h → pos 0 ≤ℤ l → cond p h (cond q l (pos 0)) ≡ pos (cond p (nat_abs h) (cond q (nat_abs l) 0))
below-term true q h l high long = sym (nat_abs-is h high)
below-term false true h l high long = sym (nat_abs-is l long)
below-term false false h l high long = refl

pub depth-is : (f : Levels) (v : ℕ) → IsForest f → pos 0 ≤ℤ height_of f v → depth f v ≡ pos (sum_to (under (before_of f) (len_of f) (node_of f v) (high_at f v)) (node_count f))
depth-is f v forest low =
    int_sum_to-same (below_at f v) (λ b. pos (under_at f b v)) (node_count f)
    (λ b inside. below-term (eqb (node_of f v) b) (holds_node f b (node_of f v)) (height_of f v) (length_of f b) low (forest.from_zero b inside))
    ∙ int_sum_to-pos (under (before_of f) (len_of f) (node_of f v) (high_at f v)) (node_count f)

pub top-is : (f : Levels) (x : ℕ) → IsForest f → top_of f x ≡ pos (sum_to (above (before_of f) (len_of f) x) (node_count f))
top-is f x forest =
    int_sum_to-same (λ b. cond (holds_node f b x) (length_of f b) (pos 0)) (λ b. pos (above (before_of f) (len_of f) x b)) (node_count f)
    (λ b inside. below-term false (holds_node f b x) (pos 0) (length_of f b) (omega (arith, ints)) (forest.from_zero b inside))
    ∙ int_sum_to-pos (above (before_of f) (len_of f) x) (node_count f)

-- the levels that part the ends of an edge

high-within : (i : Network) (odd : ℕ → ℕ) (f : Levels) (v : ℕ) → IsForest f → IsPlaced i odd f v → high_at f v ≤ len_of f (node_of f v)
high-within i odd f v forest at =
    let h : pos (nat_abs (height_of f v)) ≡ height_of f v = nat_abs-is (height_of f v) at.low in
    let l : pos (nat_abs (length_of f (node_of f v))) ≡ length_of f (node_of f v) = nat_abs-is (length_of f (node_of f v)) (forest.from_zero (node_of f v) at.node) in
    let most : height_of f v ≤ℤ length_of f (node_of f v) = at.high in
    omega (arith, ints, h, l, most)

wide-enough : (i : Network) (odd : ℕ → ℕ) (f : Levels) (e : Edge) (a : ℕ) → IsForest f → IsPlaced i odd f e.u → IsPlaced i odd f e.v → IsWide f e a
    → sum_to (λ b. parted (under_at f b e.u) (under_at f b e.v) (len_of f b)) (node_count f) ≤ 2 * nat_abs e.w
wide-enough i odd f e a forest at_u at_v wide =
    let du = depth-is f e.u forest at_u.low in
    let dv = depth-is f e.v forest at_v.low in
    let ta = top-is f a forest in
    let w = magnitude-is e.w in
    way-within (before_of f) (len_of f) (node_count f) a (node_of f e.u) (high_at f e.u) (node_of f e.v) (high_at f e.v) (nat_abs e.w) (are-nodes f forest)
    (ap nat_abs forest.outside) at_u.node (high-within i odd f e.u forest at_u) at_v.node (high-within i odd f e.v forest at_v) wide.node wide.held
    (omega (arith, ints, wide.apart, du, dv, ta, w))
    (omega (arith, ints, wide.up, du, dv, w))
    (omega (arith, ints, wide.down, du, dv, w))

-- the odd vertices above a level

under-top : (before len : ℕ → ℕ) (count x b : ℕ) → AreNodes before count → len 0 ≡ 0 → b < count → under before len x (len x) b ≡ above before len x b
under-top before len count x b nodes outside inside =
    elim (cases_eq x b) [
      | inl e ↦ under-own before len x (len x) b e ∙ ap len e ∙ sym (above-own before len count b nodes outside inside) ∙ ap (λ (z : ℕ). above before len z b) (sym e)
      | inr d ↦ under-other before len x (len x) b d
    ]

level-term : (o : ℕ) (q : Bool) (s l : ℕ) → o < 2 → s < l → cond (ltb s (cond q l 0)) o 0 ≡ cond (eqb o 1 && q) 1 0
level-term zero q s l small b = cond_off (ltb s (cond q l 0))
level-term (suc zero) true s l small b = cond-true (ltb s l) 1 0 (lt-ltb s l b)
level-term (suc zero) false s l small b = cond-false (ltb s 0) 1 0 (le-ltb s 0 (omega arith))
level-term (suc (suc o)) q s l small b = absurd (omega arith)

even-term : (o : ℕ) (t q : Bool) → o ≡ 0 → cond t o 0 ≡ cond (eqb o 1 && q) 1 0
even-term zero t q e = cond_off t
even-term (suc o) t q e = absurd (omega arith)

odd-above : (i : Network) (odd : ℕ → ℕ) (f : Levels) (b s v : ℕ) → IsForest f → IsPlaced i odd f v → b < node_count f → s < len_of f b
    → cond (ltb s (under_at f b v)) (turned_odd i odd v) 0 ≡ cond (eqb (turned_odd i odd v) 1 && holds_node f b (node_of f v)) 1 0
odd-above i odd f b s v forest at inside low =
    let o = turned_odd i odd v in
    let small : turned_odd i odd v < 2 = omega arith in
    elim (cases_eq (turned_odd i odd v) 1) [
      | inl one ↦
          let high : high_at f v ≡ len_of f (node_of f v) = ap nat_abs (at.tops one) in
          let same : under_at f b v ≡ above (before_of f) (len_of f) (node_of f v) b =
          ap (λ (h : ℕ). under (before_of f) (len_of f) (node_of f v) h b) high
          ∙ under-top (before_of f) (len_of f) (node_count f) (node_of f v) b (are-nodes f forest) (ap nat_abs forest.outside) inside
          in
          ap (λ (z : ℕ). cond (ltb s z) (turned_odd i odd v) 0) same ∙ level-term (turned_odd i odd v) (holds_node f b (node_of f v)) s (len_of f b) small low
      | inr d ↦ even-term (turned_odd i odd v) (ltb s (under_at f b v)) (holds_node f b (node_of f v)) (omega arith)
    ]

level-odd : (i : Network) (odd : ℕ → ℕ) (f : Levels) (b s : ℕ) → IsForest f → ((v : ℕ) → 1 ≤ v → v ≤ vertices i → IsPlaced i odd f v)
    → (length_of f b ≢ pos 0 → odd_held i odd f b % 2 ≡ 1) → b < node_count f → s < len_of f b
    → sum_to (λ j. cond (ltb s (under_at f b (j + 1))) (turned_odd i odd (j + 1)) 0) (vertices i) % 2 ≡ 1
level-odd i odd f b s forest placed held inside low =
    let some : length_of f b ≢ pos 0 = λ e. (let none : len_of f b ≡ 0 = ap nat_abs e in omega arith) in
    ap (λ (x : ℕ). x % 2) (sum_to-same (λ j. cond (ltb s (under_at f b (j + 1))) (turned_odd i odd (j + 1)) 0)
    (λ j. cond (eqb (turned_odd i odd (j + 1)) 1 && holds_node f b (node_of f (j + 1))) 1 0) (vertices i)
    (λ j below. odd-above i odd f b s (j + 1) forest (placed (j + 1) (omega arith) (omega arith)) inside low))
    ∙ held some

-- the sums of the proof

lengths-sum : (f : Levels) → IsForest f → int_sum_to (length_of f) (node_count f) ≡ pos (sum_to (len_of f) (node_count f))
lengths-sum f forest =
    int_sum_to-same (length_of f) (λ b. pos (len_of f b)) (node_count f) (λ b inside. sym (nat_abs-is (length_of f b) (forest.from_zero b inside)))
    ∙ int_sum_to-pos (len_of f) (node_count f)

pub half : (a b : ℤ) → (pos 2 *ℤ a) ≤ℤ (pos 2 *ℤ b) → a ≤ℤ b
half a b h = omega (arith, ints, h)

odd-degrees : (i : Network) (odd : ℕ → ℕ) (counts : List ℕ) (v : ℕ) → ((k : ℕ) → k < length (graph_of i).edges → slice_index counts k ≤ 1) → degree (graph_of i) counts v % 2 ≡ odd v
    → degree (graph_of i) (counts_turned (is_turned i) counts (length (graph_of i).edges)) v % 2 ≡ turned_odd i odd v % 2
odd-degrees i odd counts v small is =
    let turn = degree-turned (graph_of i) (is_turned i) counts v small in
    let ends = ap (sum_to (λ k. cond (is_turned i k) (ends_at (edge_at (graph_of i) k) v) 0)) (edges-count i) in
    omega (arith, turn, ends, is)

-- what the levels prove
lengths-most : (parity : Parity) (i : Network) (edges : List ℕ) (f : Levels) (counts : List ℕ) → IsNetwork i → ProvesJoin parity i edges f → IsJoinOf parity i counts
    → sum_to (len_of f) (node_count f)
    ≤ sum_to (λ k. slice_index (counts_turned (is_turned i) counts (length (graph_of i).edges)) k * (2 * nat_abs (edge_at (graph_of i) k).w)) (length (graph_of i).edges)
lengths-most parity i edges f counts network proves join =
    let g = graph_of i in
    let odd : ℕ → ℕ = odd_at parity i in
    let ends = (network-graph i network).ends in
    let size : length (graph_of i).edges ≡ length i.edges = edges-count i in
    packed (graph_of i) (counts_turned (is_turned i) counts (length (graph_of i).edges)) (turned_odd i odd) (under_at f) (len_of f) (node_count f)
    (λ k. nat_abs (edge_at (graph_of i) k).w) ends
    (λ v low high. odd-degrees i odd counts v (λ k b. once i counts join.one_each join.at_most_once k (omega (arith, b, size))) (join.degrees v low high))
    (λ k b.
    let within : IsEdgeWithin (vertices i) (edge_at (graph_of i) k) = edge_at-within (graph_of i) k ends b in
    wide-enough i odd f (edge_at (graph_of i) k) (meet_at f k) proves.forest (proves.placed (edge_at (graph_of i) k).u within.u_low within.u_high)
    (proves.placed (edge_at (graph_of i) k).v within.v_low within.v_high) (proves.wide k (omega (arith, b, size))))
    (λ b s inside low. level-odd i odd f b s proves.forest proves.placed (proves.odd b inside) inside low)

weighs-most : (parity : Parity) (i : Network) (edges : List ℕ) (f : Levels) (counts : List ℕ) → IsNetwork i → ProvesJoin parity i edges f → IsJoinOf parity i counts
    → (pos 2 *ℤ walk_weight (graph_of i) edges) ≤ℤ (pos 2 *ℤ weight (graph_of i) counts)
weighs-most parity i edges f counts network proves join =
    let size : length (graph_of i).edges ≡ length i.edges = edges-count i in
    let turned = weight-turned (graph_of i) (is_turned i) (λ k. nat_abs (edge_at (graph_of i) k).w) counts (λ k b. signed (edge_at (graph_of i) k).w)
    (λ k b. once i counts join.one_each join.at_most_once k (omega (arith, b, size))) in
    let same = ap (int_sum_to (λ k. cond (is_turned i k) (edge_at (graph_of i) k).w (pos 0))) size in
    omega (arith, ints, turned, same, lengths-sum f proves.forest, lengths-most parity i edges f counts network proves join, proves.paid)

pub least-join : (parity : Parity) (i : Network) (edges : List ℕ) (f : Levels) → IsNetwork i → ProvesJoin parity i edges f → IsLeastJoin parity i edges
least-join parity i edges f network proves = record {
  join = proves.join;
  least = λ counts join. half (walk_weight (graph_of i) edges) (weight (graph_of i) counts) (weighs-most parity i edges f counts network proves join);
}
