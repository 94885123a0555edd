-- The edges of an instance that are no loops, by their numbers with and without its loops.
use Rattle.mb_problem.proofs.Common.{◌≡◌, ℕ, suc, ◌++◌, ◌+◌, ◌-◌, ◌<◌, ◌≤◌, Bool, true, false, cond, refl, ap, sym, ◌∙◌, inl, inr, arith, List, []}
use Rattle.mb_problem.proofs.Common.{◌∷◌, length, slice_index, slice_index_or, cases_lt, Edge, sum_to, IsEdgeNumber, edge_at, edge_of, no_edge, sum_to-same, edge_of-place, Network}
use Rattle.mb_problem.proofs.Common.{plain, graph_of, plain_graph, instance_edge_at, link_count, is_loop_at, edge_at-graph_of, edges-count, sum_to-longer, find_block}
use Rattle.gadget_base.proofs.Common.{blocks, links_below, with_loops, blocks-at, length-unless, plain-blocks, link_counts-length, with_loops-at}
use Rattle.gallai.specs.Decompositions.{link_numbers}

-- the numbers of the links among the first edges, and one edge more
pub link-more : (i : Network) (k number : ℕ) (ys zs : List ℕ) → number ≡ k + 1 → ys ≡ blocks (λ j. cond (is_loop_at i j) [] ((j + 1) ∷ [])) k
    → zs ≡ ys ++ cond (is_loop_at i (number - 1)) [] (number ∷ []) → zs ≡ blocks (λ j. cond (is_loop_at i j) [] ((j + 1) ∷ [])) (k + 1)
link-more i k number ys zs is so_far longer =
    let own : ℕ → List ℕ = λ j. cond (is_loop_at i j) [] ((j + 1) ∷ []) in
    let place : number - 1 ≡ k = omega (arith, is) in
    let on : suc k ≡ k + 1 = omega arith in
    longer
    ∙ ap (λ (xs : List ℕ). xs ++ cond (is_loop_at i (number - 1)) [] (number ∷ [])) so_far
    ∙ ap (λ (j : ℕ). blocks own k ++ cond (is_loop_at i j) [] (number ∷ [])) place
    ∙ ap (λ (j : ℕ). blocks own k ++ cond (is_loop_at i k) [] (j ∷ [])) is
    ∙ ap (blocks own) on

-- the number in an instance of an edge of its graph without loops
abbrev pub instance_number : Network → ℕ → ℕ
instance_number i e = slice_index (link_numbers i) (e - 1)

-- what stands for an edge that is no loop, where something does for each of them
link_item : {A : Type 0} (i : Network) (f : ℕ → A) (d : A) (k : ℕ) → k < length i.edges → is_loop_at i k ≡ false
    → slice_index_or (blocks (λ j. cond (is_loop_at i j) [] (f j ∷ [])) (length i.edges)) (links_below i k) d ≡ f k
link_item {A} i f d k b link =
    let own : ℕ → List A = λ j. cond (is_loop_at i j) [] (f j ∷ []) in
    let one : length (own k) ≡ 1 = length-unless (is_loop_at i k) (f k ∷ []) ∙ ap (λ (t : Bool). cond {A = ℕ} t 0 1) link in
    let place : links_below i k ≡ sum_to (λ j. length (own j)) k + 0 =
    (let same = sum_to-same (λ j. length (own j)) (λ j. cond (is_loop_at i j) 0 1) k (λ j _. length-unless (is_loop_at i j) (f j ∷ [])) in
    omega (arith, same)) in
    ap (λ j. slice_index_or (blocks own (length i.edges)) j d) place
    ∙ blocks-at own (length i.edges) k 0 d b (omega (arith, one))
    ∙ ap (λ (t : Bool). slice_index_or (cond t [] (f k ∷ [])) 0 d) link

-- an edge that is no loop stands at its place
pub link-at : (i : Network) (k : ℕ) → k < length i.edges → is_loop_at i k ≡ false → edge_at (plain_graph i) (links_below i k) ≡ edge_at (graph_of i) k
link-at i k b link =
    ap (λ (es : List Edge). slice_index_or es (links_below i k) no_edge) (plain-blocks i)
    ∙ link_item i (λ j. plain (instance_edge_at i j)) no_edge k b link
    ∙ sym (edge_at-graph_of i k)

-- the edge at place k of the instance is no loop, and number e of those
pub record IsLink (i : Network) (e k : ℕ) : Type 0 where
  pub below : k < length i.edges
  pub no_loop : is_loop_at i k ≡ false
  pub place : links_below i k + 1 ≡ e

some_link : (t : Bool) (p : ℕ) → p < cond t 0 1 → (t ≡ false) × (p ≡ 0)
some_link true p b = absurd (omega arith)
some_link false p b = (refl, omega arith)

pub link_of : (i : Network) (e : ℕ) → 1 ≤ e → e ≤ link_count i → (k : ℕ) × IsLink i e k
link_of i e low high =
    let found = find_block (λ j. cond (is_loop_at i j) 0 1) (length i.edges) (e - 1) (omega (arith, low, high)) in
    let one = some_link (is_loop_at i found.block) found.place found.place_low in
    let is = found.is in
    (found.block, record { below = found.block_low; no_loop = one.0; place = omega (arith, is, one.1, low) })

pub numbers-length : (i : Network) → length (link_numbers i) ≡ link_count i
numbers-length i = link_counts-length i (λ k. k + 1)

pub link-number : (i : Network) (e k : ℕ) → IsLink i e k → instance_number i e ≡ k + 1
link-number i e k is =
    let place = is.place in
    ap (slice_index (link_numbers i)) (let same : e - 1 ≡ links_below i k = omega (arith, place) in same)
    ∙ link_item i (λ j. j + 1) 0 k is.below is.no_loop

pub number-is_edge : (i : Network) (e : ℕ) → 1 ≤ e → e ≤ link_count i → IsEdgeNumber (graph_of i) (instance_number i e)
number-is_edge i e low high =
    let found = link_of i e low high in
    let number = link-number i e found.0 found.1 in
    let below = found.1.below in
    (omega (arith, number), omega (arith, number, below, edges-count i))

pub number-edge : (i : Network) (e : ℕ) → 1 ≤ e → e ≤ link_count i → edge_of (graph_of i) (instance_number i e) ≡ edge_of (plain_graph i) e
number-edge i e low high =
    let found = link_of i e low high in
    let place = found.1.place in
    ap (edge_of (graph_of i)) (link-number i e found.0 found.1)
    ∙ edge_of-place (graph_of i) found.0
    ∙ sym (link-at i found.0 found.1.below found.1.no_loop)
    ∙ ap (edge_at (plain_graph i)) (let same : links_below i found.0 ≡ e - 1 = omega (arith, place) in same)

-- counts of the edges that are no loops, in the instance
pub number-count : (i : Network) (counts : List ℕ) (e : ℕ) → 1 ≤ e → e ≤ link_count i
    → slice_index (with_loops i counts) (instance_number i e - 1) ≡ slice_index counts (e - 1)
number-count i counts e low high =
    let found = link_of i e low high in
    let k = found.0 in
    let place = found.1.place in
    let number = link-number i e k found.1 in
    ap (slice_index (with_loops i counts)) (let same : instance_number i e - 1 ≡ k = omega (arith, number) in same)
    ∙ with_loops-at i counts k found.1.below
    ∙ ap (λ (t : Bool). cond t 0 (slice_index counts (links_below i k))) found.1.no_loop
    ∙ ap (slice_index counts) (let same : links_below i k ≡ e - 1 = omega (arith, place) in same)

-- they keep their order
pub number-less : (i : Network) (e f : ℕ) → 1 ≤ e → e < f → f ≤ link_count i → instance_number i e < instance_number i f
number-less i e f low less high =
    let first = link_of i e low (omega (arith, less, high)) in
    let second = link_of i f (omega (arith, low, less)) high in
    let here = link-number i e first.0 first.1 in
    let there = link-number i f second.0 second.1 in
    let a = first.1.place in
    let b = second.1.place in
    elim (cases_lt first.0 second.0) [
      | inl before ↦ omega (arith, here, there, before)
      | inr after ↦ let grows = sum_to-longer (λ j. cond (is_loop_at i j) 0 1) second.0 first.0 after in absurd (omega (arith, grows, a, b, less))
    ]
