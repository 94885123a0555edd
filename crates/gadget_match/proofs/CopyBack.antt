-- Each perfect matching of the graph of copies is a b-matching of the same weight.
use Rattle.gadget_base.proofs.Common.{tabled, copies_graph, values_below, IsPerfectList, times, times_each, tabled-length, tabled-at, tabled-blocks, tabled-rows, tabled-same, blocks-same}
use Rattle.gadget_base.proofs.Common.{clique_table, among, at_place, among-below, clique-places, copies-inside, copies_size, copies-within, copies-no_loop, degree-used, weight-used}
use Rattle.gadget_base.proofs.Common.{perfect_from_list, weight_of_list, list-length}
use Rattle.mb_problem.proofs.Common.{sum_to-ones, sum_to-cond, sum_to-rows, sum_to-blocks, sum_to-both, at-same, ◌≡◌, ℕ, ◌+◌, ◌-◌, ◌*◌, ◌/◌, ◌<◌, ◌≤◌}
use Rattle.mb_problem.proofs.Common.{◌^◌, pos, ◌*ℤ◌, true, false, cond, eqb, refl, ap, ap₂, sym, ◌∙◌, inl, inr, arith, Bool, List, length, slice_index, All, cases_Bool}
use Rattle.mb_problem.proofs.Common.{eqb-true, sum_to, ends_at, degree, weight, walk_weight, sum_to-same, sum_to-add, sum_to-swap, sum_to-most, int_sum_to-same, Network, IsNetwork, vertices}
use Rattle.mb_problem.proofs.Common.{plain, graph_of, instance_edge_at, value_of, value_total, value_u, value_v, is_loop_at, copy_pairs, IsBMatching}
use Rattle.gadget_match.specs.Extracted.{pairs_before, listed_pairs, gathered}
use Rattle.gadget_match.proofs.CopyLemmas.{pair_table, on_pairs, all_pairs, at_copy, degree_copy, copies-weight}

-- the places of a clique of n: those before the row of copy a

abbrev pub row_start : ℕ → ℕ → ℕ
row_start n a = sum_to (λ j. n - 1 - j) a

-- counts by these places
abbrev pub in_rows : (ℕ → ℕ) → ℕ → ℕ → ℕ → ℕ
in_rows f n a j = f (row_start n a + (j - 1 - a))

in_row : (f : ℕ → ℕ) (n a d : ℕ) → f (row_start n a + d) ≡ in_rows f n a (a + d + 1)
in_row f n a d = ap (λ x. f (row_start n a + x)) (let e : d ≡ a + d + 1 - 1 - a = omega arith in e)

tabled-clique : (f : ℕ → ℕ) (n : ℕ) → tabled f (n * (n - 1) / 2) ≡ clique_table (in_rows f n) n
tabled-clique f n =
    ap (tabled f) (sym (clique-places n))
    ∙ tabled-blocks f (λ j. n - 1 - j) n
    ∙ blocks-same _ _ n (λ a _. tabled-same _ _ (n - 1 - a) (λ d _. in_row f n a d))

sum_to-clique : (f : ℕ → ℕ) (n : ℕ) → sum_to f (n * (n - 1) / 2) ≡ among (in_rows f n) n
sum_to-clique f n =
    ap (sum_to f) (sym (clique-places n))
    ∙ sum_to-blocks (λ j. n - 1 - j) f n
    ∙ sum_to-same _ _ n (λ a _. sum_to-same _ (λ d. in_rows f n a (a + d + 1)) (n - 1 - a) (λ d _. in_row f n a d))

-- how often the edge at place r of those for edge number k + 1 is listed
abbrev pub listed_at : Network → List ℕ → ℕ → ℕ → ℕ
listed_at i edges k r = times edges (pairs_before i k + r + 1)

-- how often the edge between copies a and j of the ends of edge number k + 1 is listed
abbrev pub pair_listed : Network → List ℕ → ℕ → ℕ → ℕ → ℕ
pair_listed i edges k = cond {A = ℕ → ℕ → ℕ} (is_loop_at i k) (in_rows (listed_at i edges k) (value_u i k)) (λ a j. listed_at i edges k (a * value_v i k + j))

-- the counts of the list, pair by pair

listed-table : (i : Network) (edges : List ℕ) (k : ℕ) → tabled (listed_at i edges k) (copy_pairs i k) ≡ pair_table i (pair_listed i edges) k
listed-table i edges k =
    let f : ℕ → ℕ = listed_at i edges k in
    elim (cases_Bool (is_loop_at i k)) [
      | inl h ↦ rw h (tabled-clique f (value_u i k))
      | inr h ↦ rw h (tabled-rows f (value_u i k) (value_v i k))
    ]

pub listed-in_pairs : (i : Network) (edges : List ℕ) → times_each (copies_graph i) edges ≡ on_pairs i (pair_listed i edges)
listed-in_pairs i edges =
    let m = length i.edges in
    let f : ℕ → ℕ = λ k. times edges (k + 1) in
    ap (tabled f) (copies_size i).edges
    ∙ tabled-blocks f (copy_pairs i) m
    ∙ blocks-same _ _ m (λ k _. listed-table i edges k)

pub listed_pairs-rows : (i : Network) (edges : List ℕ) (k : ℕ) → listed_pairs i edges k ≡ all_pairs i (pair_listed i edges) k
listed_pairs-rows i edges k =
    let f : ℕ → ℕ = listed_at i edges k in
    elim (cases_Bool (is_loop_at i k)) [
      | inl h ↦ rw h (sum_to-clique f (value_u i k))
      | inr h ↦ rw h (sum_to-rows f (value_u i k) (value_v i k))
    ]

-- over all copies of a vertex, all pairs of the edges at it

times-tests : (a : ℕ) (p q : Bool) → cond p a 0 + cond q a 0 ≡ a * (cond p 1 0 + cond q 1 0)
times-tests a true true = omega arith
times-tests a true false = omega arith
times-tests a false true = omega arith
times-tests a false false = omega arith

double-test : (a : ℕ) (p : Bool) → cond p (2 * a) 0 ≡ cond p a 0 + cond p a 0
double-test a true = omega arith
double-test a false = refl

at_copies : (i : Network) (N : ℕ → ℕ → ℕ → ℕ) (t k : ℕ) → sum_to (λ c. at_copy i N t c k) (value_of i t) ≡ all_pairs i N k * ends_at (plain (instance_edge_at i k)) t
at_copies i N t k =
    let e = instance_edge_at i k in
    let m = value_u i k in
    let n = value_v i k in
    let row : ℕ → ℕ = λ c. sum_to (N k c) n in
    let column : ℕ → ℕ = λ c. sum_to (λ a. N k a c) m in
    let over_copies : (f : ℕ → ℕ) (w : ℕ) → sum_to (λ c. cond (eqb w t) (f c) 0) (value_of i t) ≡ cond (eqb w t) (sum_to f (value_of i w)) 0 = λ f w.
    sum_to-cond (eqb w t) f (value_of i t) ∙ sym (at-same (λ v. sum_to f (value_of i v)) w t) in
    elim (cases_Bool (is_loop_at i k)) [
      | inl h ↦
          let total = among (N k) m in
          let twice : sum_to (at_place (N k) m) m ≡ 2 * total =
          sum_to-add (λ c. sum_to (λ a. N k a c) c) (λ c. sum_to (λ d. N k c (c + d + 1)) (m - 1 - c)) m ∙ omega (arith, among-below (N k) m) in
          rw h
          (over_copies (at_place (N k) m) e.u ∙ ap (λ y. cond (eqb e.u t) y 0) twice ∙ double-test total (eqb e.u t) ∙ times-tests total (eqb e.u t) (eqb e.u t)
          ∙ ap (λ v. total * (cond (eqb e.u t) 1 0 + cond (eqb v t) 1 0)) (eqb-true e.u e.v h))
      | inr h ↦ rw h
          (sum_to-both _ (λ c. cond (eqb e.u t) (row c) 0) (λ c. cond (eqb e.v t) (column c) 0) (value_of i t) (λ c _. refl)
          ∙ ap₂ (λ (y z : ℕ). y + z) (over_copies row e.u) (over_copies column e.v ∙ ap (λ y. cond (eqb e.v t) y 0) (sym (sum_to-swap (N k) m n)))
          ∙ times-tests (sum_to row m) (eqb e.u t) (eqb e.v t))
    ]

pub gathered-at : (i : Network) (edges : List ℕ) (k : ℕ) → k < length i.edges → slice_index (gathered i edges) k ≡ all_pairs i (pair_listed i edges) k
gathered-at i edges k b = tabled-at (listed_pairs i edges) (length i.edges) k 0 b ∙ listed_pairs-rows i edges k

gathered-degree : (i : Network) (edges : List ℕ) (t : ℕ) → IsNetwork i → IsPerfectList (copies_graph i) edges → 1 ≤ t → t ≤ vertices i → degree (graph_of i) (gathered i edges) t
    ≡ value_of i t
gathered-degree i edges t network perfect low high =
    let m = length i.edges in
    let N = pair_listed i edges in
    let inside = copies-inside i t low high in
    degree-used i (gathered i edges) t
    ∙ sum_to-same _ _ m
    (λ k b. ap (λ x. x * ends_at (plain (instance_edge_at i k)) t) (gathered-at i edges k b) ∙ sym (at_copies i N t k))
    ∙ sum_to-swap (λ k c. at_copy i N t c k) m (value_of i t)
    ∙ sum_to-ones (λ c. sum_to (λ k. at_copy i N t c k) m) (value_of i t)
    (λ c h.
    sym (degree_copy i N t c network low h)
    ∙ ap (λ (cs : List ℕ). degree (copies_graph i) cs (values_below i t + c + 1)) (sym (listed-in_pairs i edges))
    ∙ (perfect_from_list (copies_graph i) edges (copies-within i network) (copies-no_loop i network) perfect).degrees (values_below i t + c + 1) (omega arith) (omega (arith, inside, h)))

pub gathered-feasible : (i : Network) (edges : List ℕ) → IsNetwork i → IsPerfectList (copies_graph i) edges → IsBMatching i (gathered i edges)
gathered-feasible i edges network perfect = record {
  one_each = tabled-length (listed_pairs i edges) (length i.edges);
  degrees = λ v low high. gathered-degree i edges v network perfect low high;
}

pub gathered-weighs : (i : Network) (edges : List ℕ) → IsPerfectList (copies_graph i) edges → weight (graph_of i) (gathered i edges) ≡ walk_weight (copies_graph i) edges
gathered-weighs i edges perfect =
    weight-used i (gathered i edges)
    ∙ int_sum_to-same _ _ (length i.edges)
    (λ k b. ap (λ x. pos x *ℤ (instance_edge_at i k).w) (gathered-at i edges k b))
    ∙ sym (copies-weight i (pair_listed i edges))
    ∙ ap (weight (copies_graph i)) (sym (listed-in_pairs i edges))
    ∙ weight_of_list (copies_graph i) edges perfect.numbers

-- a perfect matching has few edges

total-small : (i : Network) → IsNetwork i → value_total i ≤ vertices i * 4096
total-small i network = sum_to-most (λ k. slice_index i.values k) 4096 (vertices i) (λ k b. network.values k 0 b)

pub copies-few : (i : Network) (edges : List ℕ) → IsNetwork i → IsPerfectList (copies_graph i) edges → length edges < 2 ^ 31
copies-few i edges network perfect =
    omega (arith, list-length (copies_graph i) edges (copies-within i network) (copies-no_loop i network) perfect, total-small i network, network.few_vertices)

-- its edges are numbers of pairs
pub pair-numbers : (i : Network) (edges : List ℕ) → IsPerfectList (copies_graph i) edges → All (λ e. (1 ≤ e) × (e ≤ pairs_before i (length i.edges))) edges
pair-numbers i edges perfect =
    λ k d b. let number = perfect.numbers k d b in (number.0, let high = number.1 in let many = (copies_size i).edges in omega (arith, high, many))
