-- Each perfect matching of the doubled graph is a matching on either copy.
use Rattle.gadget_base.proofs.Common.{tabled, doubled_graph, links_below, IsPerfectList, times, times_each, tabled-length, tabled-append, tabled-pairs, blocks-same, All-tabled, doubled_size}
use Rattle.gadget_base.proofs.Common.{doubled-within, doubled-no_loop, link_counts, blocks-links, tabled-links, with_loops-degree, with_loops-weight, with_loops-small, perfect_from_list}
use Rattle.gadget_base.proofs.Common.{times-small, weight_of_list, list-length}
use Rattle.mb_problem.proofs.Common.{◌≡◌, ℕ, ◌+◌, ◌-◌, ◌*◌, ◌≤◌, ◌<◌, ℤ, pos, neg_ℤ, ◌+ℤ◌, ◌*ℤ◌, ◌≤ℤ◌, ◌<ℤ◌, int_lt, true, false}
use Rattle.mb_problem.proofs.Common.{cond, ap, sym, ◌∙◌, arith, List, ◌∷◌, [], ◌++◌, length, slice_index, All, ints, degree, weight, walk_weight, Network, IsNetwork}
use Rattle.mb_problem.proofs.Common.{vertices, graph_of, plain_graph, is_loop_at, link_count, IsMatching}
use Rattle.gadget_match.specs.Extracted.{copy_counts}
use Rattle.gadget_match.proofs.DoubleLemmas.{two_counts, on_copies, doubled-low, doubled-high, doubled-weight}

-- how often copy number c of edge number k + 1 is listed, if it is no loop
abbrev pub copy_by : Network → List ℕ → ℕ → ℕ → ℕ
copy_by i edges c k = times edges (2 * links_below i k + c)

abbrev pub left_by : Network → List ℕ → ℕ → ℕ
left_by i edges k = times edges (2 * link_count i + k + 1)

both_by : (i : Network) (edges : List ℕ) (k : ℕ) → cond (is_loop_at i k) [] (times edges (2 * links_below i k + 1) ∷ times edges (2 * links_below i k + 1 + 1) ∷ [])
    ≡ two_counts i (copy_by i edges 1) (copy_by i edges 2) k
both_by i edges k = ap (λ e. cond (is_loop_at i k) [] (times edges (2 * links_below i k + 1) ∷ times edges e ∷ [])) (let z : 2 * links_below i k + 1 + 1 ≡ 2 * links_below i k + 2 = omega
    arith in z)

-- the counts of the list, copy by copy
pub listed-in_copies : (i : Network) (edges : List ℕ) → times_each (doubled_graph i) edges ≡ on_copies i (copy_by i edges 1) (copy_by i edges 2) (left_by i edges)
listed-in_copies i edges =
    let m = length i.edges in
    let n = vertices i in
    let f : ℕ → ℕ = λ k. times edges (k + 1) in
    let g : ℕ → List ℕ = λ j. f (2 * j) ∷ f (2 * j + 1) ∷ [] in
    ap (tabled f) (doubled_size i).edges
    ∙ tabled-append f (2 * link_count i) n
    ∙ ap (λ (xs : List ℕ). xs ++ tabled (left_by i edges) n)
    (tabled-pairs f (link_count i)
    ∙ blocks-links i g m
    ∙ blocks-same (λ k. cond (is_loop_at i k) [] (g (links_below i k))) (two_counts i (copy_by i edges 1) (copy_by i edges 2)) m (λ k _. both_by i edges k))

copies-length : (i : Network) (edges : List ℕ) (c : ℕ) → length (tabled (λ k. times edges (2 * k + c)) (link_count i)) ≡ link_count i
copies-length i edges c = tabled-length (λ k. times edges (2 * k + c)) (link_count i)

pub copy-degree : (i : Network) (edges : List ℕ) (c v : ℕ) → degree (graph_of i) (copy_counts i edges c) v ≡ degree (plain_graph i) (link_counts i (copy_by i edges c)) v
copy-degree i edges c v =
    let f : ℕ → ℕ = λ k. times edges (2 * k + c) in
    with_loops-degree i (tabled f (link_count i)) v (copies-length i edges c) ∙ ap (λ (xs : List ℕ). degree (plain_graph i) xs v) (tabled-links i f)

pub copy-weight : (i : Network) (edges : List ℕ) (c : ℕ) → weight (graph_of i) (copy_counts i edges c) ≡ weight (plain_graph i) (link_counts i (copy_by i edges c))
copy-weight i edges c =
    let f : ℕ → ℕ = λ k. times edges (2 * k + c) in
    with_loops-weight i (tabled f (link_count i)) (copies-length i edges c) ∙ ap (weight (plain_graph i)) (tabled-links i f)

pub copy_counts-length : (i : Network) (edges : List ℕ) (c : ℕ) → length (copy_counts i edges c) ≡ length i.edges
copy_counts-length i edges c = tabled-length (λ k. cond (is_loop_at i k) 0 (slice_index (tabled (λ k. times edges (2 * k + c)) (link_count i)) (links_below i k))) (length i.edges)

copy-small : (i : Network) (edges : List ℕ) (c : ℕ) → IsNetwork i → IsPerfectList (doubled_graph i) edges → 1 ≤ c → c ≤ 2 → (k : ℕ) → k < link_count i → times edges (2 * k + c) ≤ 1
copy-small i edges c network perfect low high k b =
    let place : 2 * k + c - 1 < length (doubled_graph i).edges = omega (arith, (doubled_size i).edges, b, low, high) in
    let back : 2 * k + c - 1 + 1 ≡ 2 * k + c = omega (arith, low) in
    omega (arith, times-small (doubled_graph i) edges (2 * k + c - 1) (doubled-within i network) (doubled-no_loop i network) perfect place, ap (times edges) back)

copies-small : (i : Network) (edges : List ℕ) (c : ℕ) → IsNetwork i → IsPerfectList (doubled_graph i) edges → 1 ≤ c → c ≤ 2 → All (λ x. x ≤ 1) (copy_counts i edges c)
copies-small i edges c network perfect low high =
    let f : ℕ → ℕ = λ k. times edges (2 * k + c) in
    with_loops-small i (tabled f (link_count i)) (copies-length i edges c) (All-tabled (λ x. x ≤ 1) f (link_count i) (copy-small i edges c network perfect low high))

-- each vertex of the doubled graph has degree 1
listed-degree : (i : Network) (edges : List ℕ) (v : ℕ) → IsNetwork i → IsPerfectList (doubled_graph i) edges → 1 ≤ v → v ≤ 2 * vertices i
    → degree (doubled_graph i) (on_copies i (copy_by i edges 1) (copy_by i edges 2) (left_by i edges)) v ≡ 1
listed-degree i edges v network perfect low high =
    let p = perfect_from_list (doubled_graph i) edges (doubled-within i network) (doubled-no_loop i network) perfect in
    ap (λ (cs : List ℕ). degree (doubled_graph i) cs v) (sym (listed-in_copies i edges)) ∙ p.degrees v low high

pub first-matching : (i : Network) (edges : List ℕ) → IsNetwork i → IsPerfectList (doubled_graph i) edges → IsMatching i (copy_counts i edges 1)
first-matching i edges network perfect = record {
  one_each = copy_counts-length i edges 1;
  at_most_once = copies-small i edges 1 network perfect (omega arith) (omega arith);
  degrees = λ v low high.
      let here = copy-degree i edges 1 v in
      omega (arith, listed-degree i edges v network perfect low (omega (arith, high)), doubled-low i (copy_by i edges 1) (copy_by i edges 2) (left_by i edges) v network low high, here);
}

pub second-matching : (i : Network) (edges : List ℕ) → IsNetwork i → IsPerfectList (doubled_graph i) edges → IsMatching i (copy_counts i edges 2)
second-matching i edges network perfect = record {
  one_each = copy_counts-length i edges 2;
  at_most_once = copies-small i edges 2 network perfect (omega arith) (omega arith);
  degrees = λ v low high.
      let parts = doubled-high i (copy_by i edges 1) (copy_by i edges 2) (left_by i edges) v network low high in
      omega (arith, listed-degree i edges (v + vertices i) network perfect (omega (arith, low)) (omega (arith, high)), parts, copy-degree i edges 2 v);
}

-- the copies together weigh minus the perfect matching
pub copies-weigh : (i : Network) (edges : List ℕ) → IsPerfectList (doubled_graph i) edges → walk_weight (doubled_graph i) edges +ℤ (weight (graph_of i) (copy_counts i edges 1) +ℤ weight
    (graph_of i) (copy_counts i edges 2)) ≡ pos 0
copies-weigh i edges perfect =
    let walk = weight_of_list (doubled_graph i) edges perfect.numbers in
    let one = copy-weight i edges 1 in
    let two = copy-weight i edges 2 in
    omega (arith, ints, doubled-weight i (copy_by i edges 1) (copy_by i edges 2) (left_by i edges), ap (weight (doubled_graph i)) (listed-in_copies i edges), walk, one, two)

-- a perfect matching has few edges
pub double-few : (i : Network) (edges : List ℕ) → IsNetwork i → IsPerfectList (doubled_graph i) edges → length edges ≤ vertices i
double-few i edges network perfect =
    omega (arith, list-length (doubled_graph i) edges (doubled-within i network) (doubled-no_loop i network) perfect)

-- the copy that weighs more weighs at least half of both
pub second-heavier : (walk a b : ℤ) → walk +ℤ (a +ℤ b) ≡ pos 0 → int_lt a b ≡ true → neg_ℤ walk ≤ℤ (pos 2 *ℤ b)
second-heavier walk a b sum less = let order : a <ℤ b = grind (arith, ints) in omega (arith, ints, sum, order)

pub first-heavier : (walk a b : ℤ) → walk +ℤ (a +ℤ b) ≡ pos 0 → int_lt a b ≡ false → neg_ℤ walk ≤ℤ (pos 2 *ℤ a)
first-heavier walk a b sum more = let order : b ≤ℤ a = grind (arith, ints) in omega (arith, ints, sum, order)
