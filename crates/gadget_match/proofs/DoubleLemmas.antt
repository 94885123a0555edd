-- Degrees and weights of counts on the doubled graph, and the perfect matching there that each matching has.
use Rattle.mb_problem.proofs.Common.{◌≡◌, ℕ, ◌+◌, ◌-◌, ◌*◌, ◌<◌, ◌≤◌, ℤ, pos, neg_ℤ, ◌+ℤ◌, ◌*ℤ◌, true, cond, eqb, refl, ap, ap₂, sym}
use Rattle.mb_problem.proofs.Common.{◌∙◌, inl, inr, arith, List, [], ◌∷◌, ◌++◌, length, slice_index, ints, cases_Bool, cases_lt, nat_tests, All-append, Edge, ends_at, degree}
use Rattle.mb_problem.proofs.Common.{weight, IsPerfect, ends_at-other, sum_to-same, int_sum_to-add, times-neg, Network, IsNetwork, vertices, plain, graph_of, plain_graph, instance_edge_at}
use Rattle.mb_problem.proofs.Common.{is_loop_at, IsMatching, edge-ends, eqb-shift as eqb_shift, int_sum_to-none, sum_to-hit}
use Rattle.mb_problem.specs.declared.answer.Answer.TheVariants.{Counts, Walk, Nothing}
use Rattle.gadget_base.proofs.Common.{blocks, tabled, doubled_graph, to_copy, ReachesAll, All-tabled, All-blocks, All-unless, at_vertex, weighing, IsSum, nat-sum, int-sum, Sums, sums-append}
use Rattle.gadget_base.proofs.Common.{sums-blocks, sums-tabled, sums-unless, sums-one, All-two, loop-unused, link_counts, link_counts-degree, link_counts-weight, without_loops-degree}
use Rattle.gadget_base.proofs.Common.{without_loops-weight}
use Rattle.mb_problem.specs.declared.kind.Kind.TheVariants.{Match}

-- counts on the doubled graph: x on the first copies of edges that are no loops, y on the second, z between vertices and copies

abbrev pub two_counts : Network → (x y : ℕ → ℕ) → ℕ → List ℕ
two_counts i x y k = cond (is_loop_at i k) [] (x k ∷ y k ∷ [])

abbrev pub on_copies : Network → (x y z : ℕ → ℕ) → List ℕ
on_copies i x y z = blocks (two_counts i x y) (length i.edges) ++ tabled z (vertices i)

-- the two copies of an edge

abbrev first_copy : Network → ℕ → Edge
first_copy i k = record { u = (instance_edge_at i k).u; v = (instance_edge_at i k).v; w = neg_ℤ (instance_edge_at i k).w }

abbrev second_copy : Network → ℕ → Edge
second_copy i k = record { u = (instance_edge_at i k).u + vertices i; v = (instance_edge_at i k).v + vertices i; w = neg_ℤ (instance_edge_at i k).w }

-- a sum over the doubled graph, in parts
doubled_sums : {A : Type 0} {total : (ℕ → A) → ℕ → A} {none : A} {plus : A → A → A} (law : IsSum total none plus) (F : Edge → ℕ → A) (i : Network) (x y z : ℕ → ℕ)
    → Sums total F (doubled_graph i).edges (on_copies i x y z)
    (plus (total (λ k. cond (is_loop_at i k) none (plus (F (first_copy i k) (x k)) (F (second_copy i k) (y k)))) (length i.edges)) (total (λ k. F (to_copy i k) (z k)) (vertices i)))
doubled_sums law F i x y z =
    sums-append law
    (sums-blocks law (length i.edges) (λ k _. sums-unless law (is_loop_at i k) (sums-append law (sums-one law F (first_copy i k) (x k)) (sums-one law F (second_copy i k) (y k)))))
    (sums-tabled law F (to_copy i) z (vertices i))

pub on_copies-length : (i : Network) (x y z : ℕ → ℕ) → length (on_copies i x y z) ≡ length (doubled_graph i).edges
on_copies-length i x y z = sym (doubled_sums nat-sum (λ _ _. 0) i x y z).one_each

-- the degree at a vertex p that is v or its copy
doubled-degree : (i : Network) (x y z c : ℕ → ℕ) (p v : ℕ) → 1 ≤ v → v ≤ vertices i
    → ((k : ℕ) → k < length i.edges → x k * ends_at (first_copy i k) p + y k * ends_at (second_copy i k) p ≡ c k * ends_at (plain (instance_edge_at i k)) v)
    → ((k : ℕ) → k < vertices i → z k * ends_at (to_copy i k) p ≡ cond (eqb k (v - 1)) (z k) 0)
    → degree (doubled_graph i) (on_copies i x y z) p ≡ degree (plain_graph i) (link_counts i c) v + z (v - 1)
doubled-degree i x y z c p v low high front back =
    (doubled_sums nat-sum (at_vertex p) i x y z).is
    ∙ ap₂ (λ (s t : ℕ). s + t) (sum_to-same _ _ (length i.edges) (λ k b. ap (cond (is_loop_at i k) 0) (front k b)) ∙ sym (link_counts-degree i c v))
    (sum_to-same _ _ (vertices i) back ∙ sum_to-hit z (v - 1) (vertices i) (omega arith))

link_low : (k v n c : ℕ) → 1 ≤ v → v ≤ n → c * (cond (eqb (k + 1) v) 1 0 + cond (eqb (k + 1 + n) v) 1 0) ≡ cond (eqb k (v - 1)) c 0
link_low k v n c low high = grind (arith, nat_tests)

link_high : (k v n c : ℕ) → 1 ≤ v → k < n → c * (cond (eqb (k + 1) (v + n)) 1 0 + cond (eqb (k + 1 + n) (v + n)) 1 0) ≡ cond (eqb k (v - 1)) c 0
link_high k v n c low b = grind (arith, nat_tests)

-- at a vertex of the graph only first copies count
pub doubled-low : (i : Network) (x y z : ℕ → ℕ) (v : ℕ) → IsNetwork i → 1 ≤ v → v ≤ vertices i → degree (doubled_graph i) (on_copies i x y z) v
    ≡ degree (plain_graph i) (link_counts i x) v + z (v - 1)
doubled-low i x y z v network low high =
    doubled-degree i x y z x v v low high
    (λ k b.
    let ends = edge-ends i k network b in
    rw (ends_at-other (second_copy i k) v (λ same. omega (arith, ends.u_low, same)) (λ same. omega (arith, ends.v_low, same))) (omega arith))
    (λ k b. link_low k v (vertices i) (z k) low high)

-- at the copy of a vertex only second copies count
pub doubled-high : (i : Network) (x y z : ℕ → ℕ) (v : ℕ) → IsNetwork i → 1 ≤ v → v ≤ vertices i → degree (doubled_graph i) (on_copies i x y z) (v + vertices i)
    ≡ degree (plain_graph i) (link_counts i y) v + z (v - 1)
doubled-high i x y z v network low high =
    let n = vertices i in
    doubled-degree i x y z y (v + n) v low high
    (λ k b.
    let e = instance_edge_at i k in
    let ends = edge-ends i k network b in
    let none : ends_at (first_copy i k) (v + n) ≡ 0 = ends_at-other (first_copy i k) (v + n) (λ same. omega (arith, ends.u_high, same)) (λ same. omega (arith, ends.v_high, same)) in
    let moved : ends_at (second_copy i k) (v + n) ≡ ends_at (plain e) v = rw (eqb_shift e.u v n, eqb_shift e.v v n) refl in
    ap₂ (λ (s t : ℕ). x k * s + y k * t) none moved ∙ omega arith)
    (λ k b. link_high k v n (z k) low b)

-- the weights of both copies, turned round
pub doubled-weight : (i : Network) (x y z : ℕ → ℕ) → weight (doubled_graph i) (on_copies i x y z) +ℤ (weight (plain_graph i) (link_counts i x) +ℤ weight (plain_graph i) (link_counts i y))
    ≡ pos 0
doubled-weight i x y z =
    let m = length i.edges in
    let w : ℕ → ℤ = λ k. (instance_edge_at i k).w in
    let a : ℕ → ℤ = λ k. cond (is_loop_at i k) (pos 0) (pos (x k) *ℤ w k) in
    let b : ℕ → ℤ = λ k. cond (is_loop_at i k) (pos 0) (pos (y k) *ℤ w k) in
    let F : ℕ → ℤ = λ k. cond (is_loop_at i k) (pos 0) (pos (x k) *ℤ neg_ℤ (w k) +ℤ pos (y k) *ℤ neg_ℤ (w k)) in
    let nothing = int_sum_to-none (λ k. pos (z k) *ℤ pos 0) (vertices i) (λ k _. omega (arith, ints)) in
    let cancel = int_sum_to-none (λ k. F k +ℤ (a k +ℤ b k)) m
    (λ k _. elim (cases_Bool (is_loop_at i k)) [ inl h ↦ rw h refl | inr h ↦ rw h (omega (arith, ints, times-neg (x k) (w k), times-neg (y k) (w k))) ]) in
    let both = int_sum_to-add F (λ k. a k +ℤ b k) m in
    omega (arith, ints, (doubled_sums int-sum weighing i x y z).is, nothing, both, cancel, int_sum_to-add a b m, link_counts-weight i x, link_counts-weight i y)

-- a matching twice, and the vertices that it leaves joined to their copies

abbrev pub twice : Network → List ℕ → List ℕ
twice i counts = on_copies i (slice_index counts) (slice_index counts) (λ k. 1 - degree (graph_of i) counts (k + 1))

no_loop-used : (i : Network) (counts : List ℕ) → IsNetwork i → IsMatching i counts → (k : ℕ) → k < length i.edges → is_loop_at i k ≡ true → slice_index counts k ≡ 0
no_loop-used i counts network matching k b = loop-unused i counts k network matching.degrees b

left-one : (i : Network) (counts : List ℕ) (v d : ℕ) → IsNetwork i → IsMatching i counts → 1 ≤ v → v ≤ vertices i → d ≡ degree (plain_graph i) (link_counts i (slice_index counts)) v
    + (1 - degree (graph_of i) counts (v - 1 + 1)) → d ≡ 1
left-one i counts v d network matching low high is =
    let back : v - 1 + 1 ≡ v = omega arith in
    let same : degree (graph_of i) counts (v - 1 + 1) ≡ degree (graph_of i) counts v = ap (degree (graph_of i) counts) back in
    let small : degree (graph_of i) counts v ≤ 1 = matching.degrees v low high in
    omega (arith, same, without_loops-degree i counts v (no_loop-used i counts network matching), small, is)

twice-degree : (i : Network) (counts : List ℕ) (v : ℕ) → IsNetwork i → IsMatching i counts → 1 ≤ v → v ≤ 2 * vertices i → degree (doubled_graph i) (twice i counts) v ≡ 1
twice-degree i counts v network matching low high =
    let x : ℕ → ℕ = slice_index counts in
    let z : ℕ → ℕ = λ k. 1 - degree (graph_of i) counts (k + 1) in
    let D : ℕ → ℕ = degree (doubled_graph i) (twice i counts) in
    elim (cases_lt (vertices i) v) [
      | inl past ↦
          let t = v - vertices i in
          let back : t + vertices i ≡ v = omega arith in
          ap D (sym back) ∙ left-one i counts t (D (t + vertices i)) network matching (omega arith) (omega arith) (doubled-high i x x z t network (omega arith) (omega arith))
      | inr within ↦ left-one i counts v (D v) network matching low within (doubled-low i x x z v network low within)
    ]

pub twice-perfect : (i : Network) (counts : List ℕ) → IsNetwork i → IsMatching i counts → IsPerfect (doubled_graph i) (twice i counts)
twice-perfect i counts network matching =
    let m = length i.edges in
    let n = vertices i in
    let x : ℕ → ℕ = slice_index counts in
    let z : ℕ → ℕ = λ k. 1 - degree (graph_of i) counts (k + 1) in
    let many : length counts ≡ m = matching.one_each in
    let P : ℕ → Type 0 = λ c. c ≤ 1 in
    record {
      one_each = on_copies-length i x x z;
      at_most_one =
          All-append P (blocks (two_counts i x x) m) (tabled z n)
          (All-blocks P (two_counts i x x) m
          (λ k b.
          let small : x k ≤ 1 = matching.at_most_once k 0 (omega (arith, many)) in
          All-unless P (is_loop_at i k) (x k ∷ x k ∷ []) (λ _. All-two P (x k) (x k) small small)))
          (All-tabled P z n (λ k _. omega arith));
      degrees = λ v low high. twice-degree i counts v network matching low high;
    }

pub twice-weight : (i : Network) (counts : List ℕ) → IsNetwork i → IsMatching i counts → weight (doubled_graph i) (twice i counts) +ℤ pos 2 *ℤ weight (graph_of i) counts ≡ pos 0
twice-weight i counts network matching =
    let sum = doubled-weight i (slice_index counts) (slice_index counts) (λ k. 1 - degree (graph_of i) counts (k + 1)) in
    omega (arith, ints, without_loops-weight i counts (no_loop-used i counts network matching), sum)

pub double_reaches : (i : Network) → IsNetwork i → ReachesAll Match i
double_reaches i network (Counts counts) matching = record {
  counts = twice i counts;
  perfect = twice-perfect i counts network matching;
  weighs = let weighs = twice-weight i counts network matching in omega (arith, ints, weighs);
}
double_reaches i network (Walk start edges) none = absurd none
double_reaches i network Nothing none = absurd none
