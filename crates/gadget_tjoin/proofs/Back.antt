-- The edges of the instance in a perfect matching of the graph of ports are a join.
use Rattle.mb_problem.proofs.Common.{◌≡◌, ℕ, ◌+◌, ◌-◌, ◌*◌, ◌/◌, ◌%◌, ◌<◌, ◌≤◌, pos, Bool, cond, ap, sym, ◌∙◌, subst, inl, inr, arith, List}
use Rattle.mb_problem.proofs.Common.{length, get_or, slice_index, All, range_with_len, IsStrictlyIncreasing, cases_eq, length-map, All-map, sum_to, Edge, no_edge, edge_at, ends_at, degree}
use Rattle.mb_problem.proofs.Common.{IsPerfect, IsEdgeNumber, holds, walk_weight, sum_to-same, sum_to-swap, sum_to-append, times-sum_to, Network, IsNetwork, vertices, graph_of, plain}
use Rattle.mb_problem.proofs.Common.{listed_counts, listed-length, listed-at, sum_to-ones, test-small}
use Rattle.gadget_base.proofs.Common.{clique, ports_below, ports_graph, IsPerfectList, times, times_each, All-blocks, times-holds, ascending-times, times_each-at, times-small}
use Rattle.gadget_base.proofs.Common.{perfect_from_list, weight_of_list}
use Rattle.gadget_tjoin.proofs.OneTerm.{sum_to-even}
use Rattle.gadget_tjoin.proofs.Cliques.{pair, meets_group, all_clique, pair-meets_own, pair-meets_other}
use Rattle.gadget_tjoin.proofs.Places.{here, degree-here, group_size, groups-apart, groups-before_or_after, link-meets}
use Rattle.gadget_tjoin.proofs.Reached.{cliques, edges-size, link-here, clique-here, IsOddAt, ports-weight}
use Rattle.gadget_tjoin.proofs.PortEdges.{ports-within, ports-no_loop}

times_even : (q a : ℕ) → a % 2 ≡ 0 → q * a % 2 ≡ 0
times_even q a e =
    let half = a / 2 in
    let twice : a ≡ 2 * half = omega arith in
    let turned : q * (2 * half) ≡ 2 * (q * half) = grind arith in
    let same : q * a ≡ q * (2 * half) = ap (λ (y : ℕ). q * y) twice in
    omega (arith, same, turned)

-- the edge of a clique meets the group of vertex t + 1 at both ends or at none
clique-even : (i : Network) (odd : ℕ → ℕ) (t : ℕ) → All (λ e. meets_group (ports_below i odd (t + 1)) (group_size i odd t) e % 2 ≡ 0) (cliques i odd)
clique-even i odd t =
    let before : ℕ → ℕ = λ s. ports_below i odd (s + 1) in
    let size : ℕ → ℕ = group_size i odd in
    let P : Edge → Type 0 = λ e. meets_group (before t) (size t) e % 2 ≡ 0 in
    All-blocks P (λ s. clique (before s) (size s) (pos 0)) (vertices i)
    (λ s b. all_clique P (before s) (size s)
    (λ a c l l'. elim (cases_eq s t) [
      | inl e ↦
          let Q : ℕ → Type 0 = λ r. meets_group (before r) (size r) (pair (before s) a c) % 2 ≡ 0 in
          subst Q e (let two = pair-meets_own (before s) (size s) a c (omega (arith, l, l')) l' in omega (arith, two))
      | inr d ↦
          let none = pair-meets_other (before t) (size t) (before s) (size s) a c (omega (arith, l, l')) l' (groups-before_or_after i odd s t d) in
          omega (arith, none)
    ]))

-- the degree of the edges of the instance and the number of ports have the same parity
pub back-parity : (i : Network) (odd : ℕ → ℕ) (counts : List ℕ) (t : ℕ) → IsNetwork i → IsPerfect (ports_graph i odd) counts → t < vertices i → degree (graph_of i) counts (t + 1) % 2
    ≡ group_size i odd t % 2
back-parity i odd counts t ok perfect b =
    let g = ports_graph i odd in
    let m = length i.edges in
    let rest = length (cliques i odd) in
    let n = group_size i odd t in
    let before = ports_below i odd (t + 1) in
    let inner : ℕ → ℕ → ℕ = λ x k. slice_index counts k * ends_at (edge_at g k) (before + x + 1) in
    let outer : ℕ → ℕ = λ k. sum_to (λ x. inner x k) n in
    let next = groups-apart i odd t (vertices i) b in
    let ones = sum_to-ones (λ x. sum_to (inner x) (m + rest)) n
    (λ x l. ap (sum_to (inner x)) (sym (edges-size i odd)) ∙ perfect.degrees (before + x + 1) (omega arith) (omega (arith, next, l))) in
    let swapped = sum_to-swap inner n (m + rest) in
    let split = sum_to-append outer m rest in
    let gathered : (k : ℕ) → outer k ≡ slice_index counts k * meets_group before n (edge_at g k) = λ k. sym (times-sum_to (slice_index counts k)
    (λ x. ends_at (edge_at g k) (before + x + 1)) n) in
    let own = sum_to-same outer (λ k. slice_index counts k * ends_at (here i k) (t + 1)) m
    (λ k l. gathered k ∙ ap (λ (e : Edge). slice_index counts k * meets_group before n e) (link-here i odd k l) ∙ ap (λ (y : ℕ). slice_index counts k * y) (link-meets i odd k t ok l)) in
    let even = sum_to-even (λ k. outer (m + k)) rest
    (λ k l.
    let meets : meets_group before n (edge_at g (m + k)) % 2 ≡ 0 = ap (λ (e : Edge). meets_group before n e % 2) (clique-here i odd k) ∙ clique-even i odd t k no_edge l in
    ap (λ (y : ℕ). y % 2) (gathered (m + k)) ∙ times_even (slice_index counts (m + k)) (meets_group before n (edge_at g (m + k))) meets) in
    omega (arith, ones, swapped, split, own, even, degree-here i counts (t + 1))

-- the join of a perfect matching
pub back-join : (i : Network) (odd : ℕ → ℕ) (front counts : List ℕ) → IsNetwork i → ((v : ℕ) → odd v ≤ 1) → IsPerfect (ports_graph i odd) counts → length front ≡ length i.edges
    → All (λ c. c ≤ 1) front → ((k : ℕ) → k < length i.edges → slice_index counts k ≡ slice_index front k) → IsOddAt i odd front
back-join i odd front counts ok bit perfect size small same = record {
  one_each = size;
  value_limit = small;
  parity = λ v low high.
      let t = v - 1 in
      let e : t + 1 ≡ v = omega arith in
      let P : ℕ → Type 0 = λ x. degree (graph_of i) front x % 2 ≡ odd x in
      subst P e
      (let back = back-parity i odd counts t ok perfect (omega arith) in
      let one = degree-here i counts (t + 1) in
      let two = degree-here i front (t + 1) in
      let agree = sum_to-same (λ k. slice_index counts k * ends_at (here i k) (t + 1)) (λ k. slice_index front k * ends_at (here i k) (t + 1)) (length i.edges)
      (λ k b. ap (λ (c : ℕ). c * ends_at (here i k) (t + 1)) (same k b)) in
      omega (arith, back, one, two, agree, bit (t + 1)));
}

-- the edges of a join: the numbers up to that of the last edge in a perfect matching, ascending
pub record AreOwn (m : ℕ) (join matching : List ℕ) : Type 0 where
  pub ascending : IsStrictlyIncreasing join
  pub in_range : All (λ e. (1 ≤ e) × (e ≤ m)) join
  pub exact : (k : ℕ) → k < m → holds join (k + 1) ≡ holds matching (k + 1)

-- each is counted as often there
own-times : (i : Network) (odd : ℕ → ℕ) (join matching : List ℕ) (k : ℕ) → IsNetwork i → AreOwn (length i.edges) join matching → IsPerfectList (ports_graph i odd) matching
    → k < length i.edges → times matching (k + 1) ≡ times join (k + 1)
own-times i odd join matching k ok own perfect b =
    let few = times-small (ports_graph i odd) matching k (ports-within i odd ok) (ports-no_loop i odd ok) perfect (omega (arith, edges-size i odd)) in
    times-holds matching (k + 1) few
    ∙ ap (λ (t : Bool). cond {A = ℕ} t 1 0) (sym (own.exact k b))
    ∙ sym (ascending-times join (k + 1) own.ascending)

pub own-join : (i : Network) (odd : ℕ → ℕ) (join matching : List ℕ) → IsNetwork i → ((v : ℕ) → odd v ≤ 1) → AreOwn (length i.edges) join matching → IsPerfectList (ports_graph i odd) matching
    → IsOddAt i odd (listed_counts join (length i.edges))
own-join i odd join matching ok bit own perfect =
    let m = length i.edges in
    let g = ports_graph i odd in
    back-join i odd (listed_counts join m) (times_each g matching) ok bit (perfect_from_list g matching (ports-within i odd ok) (ports-no_loop i odd ok) perfect)
    (listed-length join m)
    (All-map (λ c. c ≤ 1) (λ e. cond (holds join e) 1 0) (range_with_len 1 m) (λ k d b. test-small (holds join (get_or (range_with_len 1 m) k d))))
    (λ k b.
    times_each-at g matching k (omega (arith, edges-size i odd))
    ∙ own-times i odd join matching k ok own perfect b
    ∙ ascending-times join (k + 1) own.ascending
    ∙ sym (listed-at join m k 0 b))

pub own-weight : (i : Network) (odd : ℕ → ℕ) (join matching : List ℕ) → IsNetwork i → AreOwn (length i.edges) join matching → IsPerfectList (ports_graph i odd) matching
    → walk_weight (graph_of i) join ≡ walk_weight (ports_graph i odd) matching
own-weight i odd join matching ok own perfect =
    let g = ports_graph i odd in
    let size = length-map i.edges plain in
    let numbers : All (IsEdgeNumber (graph_of i)) join = subst (λ (m : ℕ). All (λ e. (1 ≤ e) × (e ≤ m)) join) (sym size) own.in_range in
    sym (weight_of_list (graph_of i) join numbers)
    ∙ sym (ports-weight i odd (times_each (graph_of i) join) (times_each g matching)
    (λ k b.
    times_each-at g matching k (omega (arith, edges-size i odd))
    ∙ own-times i odd join matching k ok own perfect b
    ∙ sym (times_each-at (graph_of i) join k (omega (arith, size, b)))))
    ∙ weight_of_list g matching perfect.numbers
