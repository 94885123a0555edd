-- Degrees and weights in the graph of two halves, for any counts on the halves and on the pairs of copies.
use Rattle.mb_problem.proofs.Common.{◌≡◌, ◌≢◌, ℕ, ◌+◌, ◌*◌, ◌-◌, ◌<◌, ◌≤◌, Bool, cond, eqb, ltb, pos, ap, refl, subst, ◌∙◌, arith, inl, inr, List}
use Rattle.mb_problem.proofs.Common.{length, slice_index, ◌++◌, ◌+ℤ◌, ints, ne_eqb, cases_lt, le-ltb, lt-ltb, nat_tests, sum_to, int_sum_to, degree, weight, sum_to-same, Network}
use Rattle.mb_problem.proofs.Common.{IsNetwork, vertices, at_most, spare_copies, value_total, length-append, sum_to-none, sum_to-only, int_sum_to-none, block-once, sum_to-grows, sum_to-hit}
use Rattle.gadget_base.proofs.Common.{blocks, tabled, spare_pair, half_graph, halves_graph, at_vertex, weighing, nat-sum, int-sum, Sums, sums-blocks, sums-tabled, sums-same}
use Rattle.gadget_cap.proofs.GateLemmas.{value, below}
use Rattle.gadget_interval.proofs.Sizes.{pairs, pairs-before, halves-edges}
use Rattle.gadget_interval.proofs.Twins.{low-degree, high-degree, twice-weight}
use Rattle.gadget_interval.proofs.Ends.{half-within}

-- counts of the pairs: P k a of the copy of vertex k + 1 that comes a after those of its least degree
abbrev pub pair_counts : Network → (ℕ → ℕ → ℕ) → List ℕ
pair_counts i P = blocks (λ k. tabled (P k) (spare_copies i k)) (vertices i)

-- the copy of a pair, from 0
abbrev pub copy_at : Network → ℕ → ℕ → ℕ
copy_at i k a = below (at_most i) k + (slice_index i.lows k + a)

-- what the pairs count at copy q, and at its twin
abbrev pub paired : Network → (ℕ → ℕ → ℕ) → ℕ → ℕ
paired i P q = sum_to (λ k. sum_to (λ a. cond (eqb (copy_at i k a) q) (P k a) 0) (spare_copies i k)) (vertices i)

test_low : (u q by c : ℕ) → q < by → c * (cond (eqb (u + 1) (q + 1)) 1 0 + cond (eqb (u + 1 + by) (q + 1)) 1 0) ≡ cond (eqb u q) c 0
test_low u q by c low = grind (arith, nat_tests)

test_high : (u q by c : ℕ) → u < by → c * (cond (eqb (u + 1) (q + 1 + by)) 1 0 + cond (eqb (u + 1 + by) (q + 1 + by)) 1 0) ≡ cond (eqb u q) c 0
test_high u q by c low = grind (arith, nat_tests)

copy-inside : (i : Network) (k a : ℕ) → IsNetwork i → k < vertices i → a < spare_copies i k
    → slice_index i.lows k + a < value (at_most i) k × (copy_at i k a < value_total (at_most i))
copy-inside i k a net b small =
    let grows = sum_to-grows (value (at_most i)) k (vertices (at_most i)) (omega (arith, b, net.high_each)) in
    let here : spare_copies i k ≡ value (at_most i) k - slice_index i.lows k = ap (λ j. slice_index i.highs j - slice_index i.lows j) (let z : k + 1 - 1 ≡ k = omega arith in z) in
    (omega (arith, here, small), omega (arith, grows, here, small))

-- where v is copy q or its twin
abbrev TestsAs : ℕ → ℕ → ℕ → Type 0
TestsAs by q v = (u c : ℕ) → u < by → c * (cond (eqb (u + 1) v) 1 0 + cond (eqb (u + 1 + by) v) 1 0) ≡ cond (eqb u q) c 0

module _ (i : Network) (P : ℕ → ℕ → ℕ) (by q : ℕ) (net : IsNetwork i) (inside : value_total (at_most i) ≤ by) where
  paired-over : (v : ℕ) → TestsAs by q v → Sums sum_to (at_vertex v) (blocks (pairs i by) (vertices i)) (pair_counts i P) (paired i P q)
  paired-over v test =
      sums-blocks nat-sum (vertices i)
      (λ k b.
      sums-same (sums-tabled nat-sum (at_vertex v) (spare_pair i by k) (P k) (spare_copies i k))
      (sum_to-same _ _ (spare_copies i k)
      (λ a small.
      let at : ℕ → ℕ = λ j. below (at_most i) j + (slice_index i.lows j + a) in
      let back : k + 1 - 1 ≡ k = omega arith in
      ap (λ j. P k a * (cond (eqb (at j + 1) v) 1 0 + cond (eqb (at j + 1 + by) v) 1 0)) back
      ∙ test (copy_at i k a) (P k a) (omega (arith, (copy-inside i k a net b small).1, inside)))))

  pub paired-low : q < by → Sums sum_to (at_vertex (q + 1)) (blocks (pairs i by) (vertices i)) (pair_counts i P) (paired i P q)
  paired-low low = paired-over (q + 1) (λ u c _. test_low u q by c low)

  pub paired-high : Sums sum_to (at_vertex (q + 1 + by)) (blocks (pairs i by) (vertices i)) (pair_counts i P) (paired i P q)
  paired-high = paired-over (q + 1 + by) (λ u c b. test_high u q by c b)

pairs-miss : (i : Network) (P : ℕ → ℕ → ℕ) (k q : ℕ) → ((a : ℕ) → a < spare_copies i k → copy_at i k a ≢ q)
    → sum_to (λ a. cond (eqb (copy_at i k a) q) (P k a) 0) (spare_copies i k) ≡ 0
pairs-miss i P k q apart =
    sum_to-none _ (spare_copies i k) (λ a b. rw (ne_eqb (copy_at i k a) q (apart a b)) refl)

-- the vertices of gates are in no pair
pub paired-gate : (i : Network) (P : ℕ → ℕ → ℕ) (q : ℕ) → IsNetwork i → value_total (at_most i) ≤ q → paired i P q ≡ 0
paired-gate i P q net past =
    sum_to-none _ (vertices i) (λ k b. pairs-miss i P k q (λ a small e. omega (arith, (copy-inside i k a net b small).1, e, past)))

test_shifted : (s l a c : ℕ) → l ≤ c → eqb (s + (l + a)) (s + c) ≡ eqb a (c - l)
test_shifted s l a c past = grind (arith, nat_tests)

-- copy c of vertex t + 1 is in at most one pair
pub paired-copy : (i : Network) (P : ℕ → ℕ → ℕ) (t c : ℕ) → IsNetwork i → t < vertices i → c < value (at_most i) t → paired i P (below (at_most i) t + c)
    ≡ cond (ltb c (slice_index i.lows t)) 0 (P t (c - slice_index i.lows t))
paired-copy i P t c net b small =
    let up = at_most i in
    let q = below up t + c in
    let low = slice_index i.lows t in
    let single = sum_to-only (λ k. sum_to (λ a. cond (eqb (copy_at i k a) q) (P k a) 0) (spare_copies i k)) t (vertices i) b
    (λ k l d. pairs-miss i P k q (λ a s e. d (block-once (value up) k t (slice_index i.lows k + a) c (copy-inside i k a net l s).0 small e))) in
    elim (cases_lt c low) [
      | inl less ↦ rw (lt-ltb c low less) (single ∙ pairs-miss i P t q (λ a s e. omega (arith, less, e)))
      | inr past ↦
          let here : spare_copies i t ≡ value up t - low = ap (λ j. slice_index i.highs j - slice_index i.lows j) (let z : t + 1 - 1 ≡ t = omega arith in z) in
          rw (le-ltb c low past)
          (single
          ∙ sum_to-same _ (λ a. cond (eqb a (c - low)) (P t a) 0) (spare_copies i t) (λ a _. ap (λ (x : Bool). cond x (P t a) 0) (test_shifted (below up t) low a c past))
          ∙ sum_to-hit (P t) (c - low) (spare_copies i t) (omega (arith, here, small, past)))
    ]

-- pairs weigh nothing
pub pairs-weight : (i : Network) (P : ℕ → ℕ → ℕ) (by : ℕ) → Sums int_sum_to weighing (blocks (pairs i by) (vertices i)) (pair_counts i P) (pos 0)
pairs-weight i P by =
    sums-same (sums-blocks int-sum (vertices i) (λ k _. sums-tabled int-sum weighing (spare_pair i by k) (P k) (spare_copies i k)))
    (int_sum_to-none _ (vertices i) (λ k _. int_sum_to-none _ (spare_copies i k) (λ a _. omega (arith, ints))))

-- counts of both halves and of the pairs

abbrev pub on_halves : Network → List ℕ → List ℕ → (ℕ → ℕ → ℕ) → List ℕ
on_halves i one two P = one ++ (two ++ pair_counts i P)

pub on_halves-length : (i : Network) (one two : List ℕ) (P : ℕ → ℕ → ℕ) → length one ≡ length (half_graph i).edges → length two ≡ length (half_graph i).edges
    → length (on_halves i one two P) ≡ length (halves_graph i).edges
on_halves-length i one two P size size' =
    let n = (half_graph i).vertices in
    let many = (pairs-weight i P n).one_each in
    omega (arith, length-append one (two ++ pair_counts i P), length-append two (pair_counts i P), size, size', many, pairs-before i n (vertices i), halves-edges i)

pub first-degree : (i : Network) (one two : List ℕ) (P : ℕ → ℕ → ℕ) (q : ℕ) → IsNetwork i → length one ≡ length (half_graph i).edges
    → length two ≡ length (half_graph i).edges
    → q < (half_graph i).vertices → degree (halves_graph i) (on_halves i one two P) (q + 1) ≡ degree (half_graph i) one (q + 1) + paired i P q
first-degree i one two P q net size size' low =
    low-degree (half_graph i) _ one two (pair_counts i P) size size' (q + 1) (half-within i net) (omega (arith, low)) (paired-low i P (half_graph i).vertices q net (omega arith) low)

pub second-degree : (i : Network) (one two : List ℕ) (P : ℕ → ℕ → ℕ) (q : ℕ) → IsNetwork i → length one ≡ length (half_graph i).edges
    → length two ≡ length (half_graph i).edges
    → degree (halves_graph i) (on_halves i one two P) (q + 1 + (half_graph i).vertices) ≡ degree (half_graph i) two (q + 1) + paired i P q
second-degree i one two P q net size size' =
    high-degree (half_graph i) _ one two (pair_counts i P) size size' (q + 1) (half-within i net) (omega arith) (paired-high i P (half_graph i).vertices q net (omega arith))

-- each vertex of one half has degree 1 together with the pairs
abbrev pub IsCovered : Network → (ℕ → ℕ → ℕ) → List ℕ → Type 0
IsCovered i P taking = (q : ℕ) → q < (half_graph i).vertices → degree (half_graph i) taking (q + 1) + paired i P q ≡ 1

pub halves-degrees : (i : Network) (one two : List ℕ) (P : ℕ → ℕ → ℕ) → IsNetwork i → length one ≡ length (half_graph i).edges
    → length two ≡ length (half_graph i).edges → IsCovered i P one
    → IsCovered i P two → (v : ℕ) → 1 ≤ v → v ≤ 2 * (half_graph i).vertices → degree (halves_graph i) (on_halves i one two P) v ≡ 1
halves-degrees i one two P net size size' covered covered' v low high =
    let n = (half_graph i).vertices in
    let IsOne : ℕ → Type 0 = λ x. degree (halves_graph i) (on_halves i one two P) x ≡ 1 in
    elim (cases_lt (v - 1) n) [
      | inl first ↦ subst IsOne (let z : v - 1 + 1 ≡ v = omega (arith, low) in z) (first-degree i one two P (v - 1) net size size' first ∙ covered (v - 1) first)
      | inr second ↦
          let q = v - 1 - n in
          subst IsOne (let z : q + 1 + n ≡ v = omega (arith, low, second) in z) (second-degree i one two P q net size size' ∙ covered' q (omega (arith, low, second, high)))
    ]

pub halves-weight : (i : Network) (one two : List ℕ) (P : ℕ → ℕ → ℕ) → length one ≡ length (half_graph i).edges → length two ≡ length (half_graph i).edges
    → weight (halves_graph i) (on_halves i one two P) ≡ weight (half_graph i) one +ℤ weight (half_graph i) two
halves-weight i one two P size size' =
    let half = half_graph i in
    omega (arith, ints, twice-weight half (blocks (pairs i half.vertices) (vertices i)) one two (pair_counts i P) size size' (pairs-weight i P half.vertices))
