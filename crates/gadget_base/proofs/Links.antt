-- The edges of an instance that are no loops, as counts: a matching of all edges is one of these.
use Rattle.mb_problem.proofs.Common.{◌≡◌, ℕ, zero, suc, ◌+◌, ◌*◌, ◌<◌, ◌≤◌, pos, ◌*ℤ◌, Bool, true, false, not, cond, refl, ap, sym, ◌∙◌, inl, inr}
use Rattle.mb_problem.proofs.Common.{arith, List, [], ◌∷◌, ◌++◌, length, map, slice_index, All, ints, cases_Bool, length-map, append-nil, All-cons, All-nil, Edge, sum_to}
use Rattle.mb_problem.proofs.Common.{int_sum_to, HasSize, IsGraph, IsEdgeWithin, IsWeight, IsPerfect, is_loop, no_edge, edge_at, ends_at, degree, weight, weightless, unweighted, Network}
use Rattle.mb_problem.proofs.Common.{IsNetwork, vertices, plain, graph_of, plain_graph, instance_edge_at, size_of, link_count, is_loop_at, edge_at-graph_of, edges-count, edge-ends}
use Rattle.mb_problem.proofs.Common.{edge-weight, sum_to-grows}
use Rattle.mb_problem.specs.declared.answer.Answer.TheVariants.{Counts, Walk, Nothing}
use Rattle.mb_problem.specs.declared.kind.Kind.TheVariants.{Perfect, Gallai}
use Rattle.gadget_base.specs.Blocks.{blocks, tabled}
use Rattle.gadget_base.specs.Links.{links_below, with_loops}
use Rattle.gadget_base.specs.Certified.{ReachesAll}
use Rattle.gadget_base.specs.Listed.{times, times_each}
use Rattle.gadget_base.proofs.Blocks.{tabled-length, tabled-at, is-tabled, blocks-more, blocks-same, tabled-blocks, filter-blocks, All-tabled, All-blocks, All-unless}
use Rattle.gadget_base.proofs.Over.{at_vertex, weighing, IsSum, nat-sum, int-sum, Sums, sums-blocks, sums-one, sums-unless, sums-length}
use Rattle.gadget_base.proofs.Used.{degree-used, weight-used, loop-unused}

-- the edges of the graph without loops, edge by edge

one_or_none : (t : Bool) (e : Edge) → cond (not t) (e ∷ []) [] ≡ cond t [] (e ∷ [])
one_or_none true e = refl
one_or_none false e = refl

-- edge number k + 1, if it is no loop
abbrev pub itself : Network → ℕ → List Edge
itself i k = cond (is_loop_at i k) [] (plain (instance_edge_at i k) ∷ [])

pub plain-blocks : (i : Network) → (plain_graph i).edges ≡ blocks (itself i) (length i.edges)
plain-blocks i =
    let link : Edge → Bool = λ e. not (is_loop e) in
    let f : ℕ → List Edge = λ k. cond (link (edge_at (graph_of i) k)) (edge_at (graph_of i) k ∷ []) [] in
    filter-blocks link no_edge (map plain i.edges)
    ∙ ap (blocks f) (length-map i.edges plain)
    ∙ blocks-same _ _ (length i.edges)
    (λ k _. ap (λ (e : Edge). cond (link e) (e ∷ []) []) (edge_at-graph_of i k) ∙ one_or_none (is_loop_at i k) (plain (instance_edge_at i k)))

-- x at each edge that is no loop, as counts of that graph
abbrev pub link_counts : Network → (ℕ → ℕ) → List ℕ
link_counts i x = blocks (λ k. cond (is_loop_at i k) [] (x k ∷ [])) (length i.edges)

link_sums : {A : Type 0} {total : (ℕ → A) → ℕ → A} {none : A} {plus : A → A → A} (law : IsSum total none plus) (F : Edge → ℕ → A) (i : Network) (x : ℕ → ℕ)
    → Sums total F (plain_graph i).edges (link_counts i x) (total (λ k. cond (is_loop_at i k) none (F (plain (instance_edge_at i k)) (x k))) (length i.edges))
link_sums law F i x = rw (plain-blocks i) (sums-blocks law (length i.edges) (λ k _. sums-unless law (is_loop_at i k) (sums-one law F (plain (instance_edge_at i k)) (x k))))

pub plain-length : (i : Network) → length (plain_graph i).edges ≡ link_count i
plain-length i = sums-length (link_sums nat-sum (λ _ _. 1) i (λ _. 0))

pub plain-size : (i : Network) → HasSize (size_of Perfect i) (plain_graph i)
plain-size i = record { vertices = refl; edges = plain-length i }

pub unweighted_size : (i : Network) → HasSize (size_of Gallai i) (unweighted (plain_graph i))
unweighted_size i = record { vertices = refl; edges = length-map (plain_graph i).edges weightless ∙ plain-length i }

all_links : (P : Edge → Type 0) (i : Network) → ((k : ℕ) → k < length i.edges → P (plain (instance_edge_at i k))) → All P (plain_graph i).edges
all_links P i each =
    rw (plain-blocks i)
    (All-blocks P (itself i) (length i.edges)
    (λ k b. let e = plain (instance_edge_at i k) in All-unless P (is_loop_at i k) (e ∷ []) (λ _. All-cons P e [] (each k b) (All-nil P))))

pub plain-within : (i : Network) → IsNetwork i → All (IsEdgeWithin (plain_graph i).vertices) (plain_graph i).edges
plain-within i network = all_links (IsEdgeWithin (vertices i)) i (λ k b. edge-ends i k network b)

pub links-few : (i : Network) (k : ℕ) → links_below i k ≤ k
links-few i zero = omega arith
links-few i (suc k) = grind (arith, links-few i k)

pub plain-graph : (i : Network) → IsNetwork i → IsGraph (plain_graph i)
plain-graph i network =
    record {
      few_vertices = omega (arith, network.few_vertices);
      few_edges = omega (arith, network.few_edges, plain-length i, links-few i (length i.edges));
      ends = plain-within i network;
      weights = all_links (λ e. IsWeight e.w) i (λ k b. edge-weight i k network b);
    }

pub link_counts-length : (i : Network) (x : ℕ → ℕ) → length (link_counts i x) ≡ link_count i
link_counts-length i x = sym (link_sums nat-sum (λ _ _. 0) i x).one_each ∙ plain-length i

pub link_counts-degree : (i : Network) (x : ℕ → ℕ) (v : ℕ) → degree (plain_graph i) (link_counts i x) v
    ≡ sum_to (λ k. cond (is_loop_at i k) 0 (x k * ends_at (plain (instance_edge_at i k)) v)) (length i.edges)
link_counts-degree i x v = (link_sums nat-sum (at_vertex v) i x).is

pub link_counts-weight : (i : Network) (x : ℕ → ℕ) → weight (plain_graph i) (link_counts i x)
    ≡ int_sum_to (λ k. cond (is_loop_at i k) (pos 0) (pos (x k) *ℤ (instance_edge_at i k).w)) (length i.edges)
link_counts-weight i x = (link_sums int-sum weighing i x).is

-- counts by the places of these edges

tabled_one : (f : ℕ → ℕ) (t : Bool) (s : ℕ) → tabled (λ r. f (s + r)) (cond t 0 1) ≡ cond t [] (f s ∷ [])
tabled_one f true s = refl
tabled_one f false s = ap (λ p. f p ∷ []) (let e : s + 0 ≡ s = omega arith in e)

pub tabled-links : (i : Network) (f : ℕ → ℕ) → tabled f (link_count i) ≡ link_counts i (λ k. f (links_below i k))
tabled-links i f =
    tabled-blocks f (λ k. cond (is_loop_at i k) 0 1) (length i.edges) ∙ blocks-same _ _ (length i.edges) (λ k _. tabled_one f (is_loop_at i k) (links_below i k))

-- blocks of these edges, one after another, edge by edge

one_more_or_none : {A : Type 0} (g : ℕ → List A) (n : ℕ) (t : Bool) → blocks g (n + cond t 0 1) ≡ blocks g n ++ cond t [] (g n)
one_more_or_none g n true = ap (blocks g) (let e : n + 0 ≡ n = omega arith in e) ∙ sym (append-nil (blocks g n))
one_more_or_none g n false = blocks-more g n

pub blocks-links : {A : Type 0} (i : Network) (g : ℕ → List A) (n : ℕ) → blocks g (links_below i n) ≡ blocks (λ k. cond (is_loop_at i k) [] (g (links_below i k))) n
blocks-links i g zero = refl
blocks-links i g (suc n) =
    one_more_or_none g (links_below i n) (is_loop_at i n) ∙ ap (λ xs. xs ++ cond (is_loop_at i n) [] (g (links_below i n))) (blocks-links i g n)

-- a list of edges of that graph as counts
pub listed-links : (i : Network) (edges : List ℕ) (n : ℕ) → n ≡ link_count i → tabled (λ k. times edges (k + 1)) n ≡ times_each (plain_graph i) edges
listed-links i edges n size = ap (tabled (λ k. times edges (k + 1))) (size ∙ sym (plain-length i))

by_links : (i : Network) (counts : List ℕ) → length counts ≡ link_count i → counts ≡ link_counts i (λ k. slice_index counts (links_below i k))
by_links i counts size = is-tabled counts (λ k. slice_index counts k) (link_count i) size (λ k _. refl) ∙ tabled-links i (λ k. slice_index counts k)

pub with_loops-at : (i : Network) (counts : List ℕ) (k : ℕ) → k < length i.edges → slice_index (with_loops i counts) k ≡ cond (is_loop_at i k) 0 (slice_index counts (links_below i k))
with_loops-at i counts k b = tabled-at (λ k. cond (is_loop_at i k) 0 (slice_index counts (links_below i k))) (length i.edges) k 0 b

-- sums over all edges, where an edge that isn't counted adds nothing
module _ {A : Type 0} {total : (ℕ → A) → ℕ → A} {none : A} {plus : A → A → A} (law : IsSum total none plus) (F : Edge → ℕ → A)
    (nothing : (e : Edge) → F e 0 ≡ none) where
  over-loops : (t : Bool) (e : Edge) (c : ℕ) → F e (cond t 0 c) ≡ cond t none (F e c)
  over-loops true e c = nothing e
  over-loops false e c = refl

  over-uncounted : (t : Bool) (e : Edge) (c : ℕ) → (t ≡ true → c ≡ 0) → cond t none (F e c) ≡ F e c
  over-uncounted true e c none_there = sym (ap (F e) (none_there refl) ∙ nothing e)
  over-uncounted false e c none_there = refl

  over-with_loops : (i : Network) (counts : List ℕ) → length counts ≡ link_count i
      → total (λ k. F (plain (instance_edge_at i k)) (slice_index (with_loops i counts) k)) (length i.edges)
      ≡ total (λ k. F (edge_at (plain_graph i) k) (slice_index counts k)) (length (plain_graph i).edges)
  over-with_loops i counts size =
      law.same _ _ (length i.edges) (λ k b. ap (F _) (with_loops-at i counts k b) ∙ over-loops (is_loop_at i k) _ _)
      ∙ sym (link_sums law F i (λ k. slice_index counts (links_below i k))).is
      ∙ ap (λ (xs : List ℕ). total (λ k. F (edge_at (plain_graph i) k) (slice_index xs k)) (length (plain_graph i).edges)) (sym (by_links i counts size))

  over-without_loops : (i : Network) (counts : List ℕ) → ((k : ℕ) → k < length i.edges → is_loop_at i k ≡ true → slice_index counts k ≡ 0)
      → total (λ k. F (edge_at (plain_graph i) k) (slice_index (link_counts i (slice_index counts)) k)) (length (plain_graph i).edges)
      ≡ total (λ k. F (plain (instance_edge_at i k)) (slice_index counts k)) (length i.edges)
  over-without_loops i counts uncounted =
      (link_sums law F i (slice_index counts)).is ∙ law.same _ _ (length i.edges) (λ k b. over-uncounted (is_loop_at i k) _ (slice_index counts k) (uncounted k b))

at_none : (v : ℕ) (e : Edge) → at_vertex v e 0 ≡ 0
at_none v e = omega arith

weighs_none : (e : Edge) → weighing e 0 ≡ pos 0
weighs_none e = omega (arith, ints)

pub with_loops-degree : (i : Network) (counts : List ℕ) (v : ℕ) → length counts ≡ link_count i → degree (graph_of i) (with_loops i counts) v ≡ degree (plain_graph i) counts v
with_loops-degree i counts v size = degree-used i (with_loops i counts) v ∙ over-with_loops nat-sum (at_vertex v) (at_none v) i counts size

pub with_loops-weight : (i : Network) (counts : List ℕ) → length counts ≡ link_count i → weight (graph_of i) (with_loops i counts) ≡ weight (plain_graph i) counts
with_loops-weight i counts size = weight-used i (with_loops i counts) ∙ over-with_loops int-sum weighing weighs_none i counts size

-- an edge that is no loop has its place
pub link-place : (i : Network) (k : ℕ) → k < length i.edges → is_loop_at i k ≡ false → links_below i k < link_count i
link-place i k b link = omega (arith, sum_to-grows (λ j. cond (is_loop_at i j) 0 1) k (length i.edges) b, ap (λ (t : Bool). cond {A = ℕ} t 0 1) link)

pub with_loops-small : (i : Network) (counts : List ℕ) → length counts ≡ link_count i → All (λ c. c ≤ 1) counts → All (λ c. c ≤ 1) (with_loops i counts)
with_loops-small i counts size small =
    All-tabled (λ c. c ≤ 1) (λ k. cond (is_loop_at i k) 0 (slice_index counts (links_below i k))) (length i.edges)
    (λ k b. elim (cases_Bool (is_loop_at i k)) [
      | inl h ↦ rw h (omega arith)
      | inr h ↦ let place = link-place i k b h in rw h (small (links_below i k) 0 (omega (arith, place, size)))
    ])

-- a perfect matching of the graph without loops is one of the graph

pub with_loops-perfect : (i : Network) (counts : List ℕ) → IsPerfect (plain_graph i) counts → IsPerfect (graph_of i) (with_loops i counts)
with_loops-perfect i counts perfect =
    let size : length counts ≡ link_count i = perfect.one_each ∙ plain-length i in
    record {
      one_each = tabled-length (λ k. cond (is_loop_at i k) 0 (slice_index counts (links_below i k))) (length i.edges) ∙ sym (edges-count i);
      at_most_one = with_loops-small i counts size perfect.at_most_one;
      degrees = λ v low high. with_loops-degree i counts v size ∙ perfect.degrees v low high;
    }

-- .. and the other way round

-- where no loop is counted nothing changes
pub without_loops-degree : (i : Network) (counts : List ℕ) (v : ℕ) → ((k : ℕ) → k < length i.edges → is_loop_at i k ≡ true → slice_index counts k ≡ 0)
    → degree (plain_graph i) (link_counts i (slice_index counts)) v ≡ degree (graph_of i) counts v
without_loops-degree i counts v uncounted = over-without_loops nat-sum (at_vertex v) (at_none v) i counts uncounted ∙ sym (degree-used i counts v)

pub without_loops-weight : (i : Network) (counts : List ℕ) → ((k : ℕ) → k < length i.edges → is_loop_at i k ≡ true → slice_index counts k ≡ 0)
    → weight (plain_graph i) (link_counts i (slice_index counts)) ≡ weight (graph_of i) counts
without_loops-weight i counts uncounted = over-without_loops int-sum weighing weighs_none i counts uncounted ∙ sym (weight-used i counts)

perfect_unused : (i : Network) (counts : List ℕ) → IsNetwork i → IsPerfect (graph_of i) counts → (k : ℕ) → k < length i.edges → is_loop_at i k ≡ true → slice_index counts k ≡ 0
perfect_unused i counts network perfect k b = loop-unused i counts k network (λ v low high. let one = perfect.degrees v low high in omega (arith, one)) b

pub without_loops-perfect : (i : Network) (counts : List ℕ) → IsNetwork i → IsPerfect (graph_of i) counts → IsPerfect (plain_graph i) (link_counts i (slice_index counts))
without_loops-perfect i counts network perfect = record {
  one_each =
      link_counts-length i (slice_index counts) ∙ sym (plain-length i);
  at_most_one =
      let P : ℕ → Type 0 = λ c. c ≤ 1 in
      All-blocks P (λ k. cond (is_loop_at i k) [] (slice_index counts k ∷ [])) (length i.edges)
      (λ k b. All-unless P (is_loop_at i k) (slice_index counts k ∷ [])
      (λ _. All-cons P (slice_index counts k) [] (perfect.at_most_one k 0 (omega (arith, perfect.one_each, edges-count i, b))) (All-nil P)));
  degrees = λ v low high. without_loops-degree i counts v (perfect_unused i counts network perfect) ∙ perfect.degrees v low high;
}

-- each perfect matching of the instance is one of that graph
pub perfect-reached : (i : Network) → IsNetwork i → ReachesAll Perfect i
perfect-reached i network (Counts counts) perfect = record {
  counts = link_counts i (slice_index counts);
  perfect = without_loops-perfect i counts network perfect;
  weighs = omega (arith, ints, without_loops-weight i counts (perfect_unused i counts network perfect));
}
perfect-reached i network (Walk start edges) h = absurd h
perfect-reached i network Nothing h = absurd h
