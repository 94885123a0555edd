-- Lemmas on the graphs of an instance while they are built.
use Rattle.mb_problem.proofs.Common.{◌≡◌, ℕ, ◌+◌, ◌-◌, ◌*◌, ◌/◌, ◌<◌, ◌≤◌, ◌^◌, ap, ◌∙◌, arith, List, length, slice_index, slice_index_or, cond}
use Rattle.mb_problem.proofs.Common.{true, false, get_or_read, sum_to, Multigraph, is_loop, Network, vertices, plain, instance_edge_at, value_of, size_of, value_total, is_loop_at}
use Rattle.mb_problem.proofs.Common.{link_count, IsWithinLimits, sum_to-longer, sum_to-grows}
use Rattle.mb_problem.specs.declared.instance.InstanceEdge.{InstanceEdge}
use Rattle.gadget_base.proofs.Common.{blocks, two_copies, pairs_of_copies, values_below, links_below, AreStarts, blocks-length, rectangle-length, clique-length, pairs-length, copies_size}
use Rattle.mb_problem.specs.declared.kind.Kind.TheVariants.{Match, BMatch}
use Rattle.gadget_match.specs.Copied.{pairs_between}

-- there is room for two copies of one edge more
pub room-twice : (i : Network) (g : Multigraph) (k : ℕ) → IsWithinLimits (size_of Match i) → g ≡ record {
  vertices = 2 * vertices i;
  edges = blocks (two_copies i) k;
} → k < length i.edges → (length g.edges + 2) < 2 ^ 32
room-twice i g k limits is b =
    let size : length g.edges ≡ 2 * links_below i k = ap (λ (h : Multigraph). length h.edges) is ∙ pairs-length i k in
    let few : 2 * link_count i + vertices i ≤ 1048576 = limits.edges in
    omega (arith, size, sum_to-longer (λ j. cond (is_loop_at i j) 0 1) k (length i.edges) (omega arith), few)

-- there is room for the edges between the vertices and their copies
pub room-join : (i : Network) (g : Multigraph) (n : ℕ) → IsWithinLimits (size_of Match i) → g ≡ record {
  vertices = 2 * vertices i;
  edges = blocks (two_copies i) (length i.edges);
} → n ≡ vertices i → (length g.edges + n) < 2 ^ 32
room-join i g n limits is same =
    let size : length g.edges ≡ 2 * link_count i = ap (λ (h : Multigraph). length h.edges) is ∙ pairs-length i (length i.edges) in
    let few : 2 * link_count i + vertices i ≤ 1048576 = limits.edges in
    omega (arith, size, few, same)

-- how many pairs of copies there are

pub loop-pairs : (i : Network) (e : InstanceEdge) → is_loop (plain e) ≡ true → length (pairs_between i e) ≡ value_of i e.u * (value_of i e.u - 1) / 2
loop-pairs i e h = rw h (clique-length (values_below i e.u) (value_of i e.u) e.w)

pub link-pairs : (i : Network) (e : InstanceEdge) → is_loop (plain e) ≡ false → length (pairs_between i e) ≡ value_of i e.u * value_of i e.v
link-pairs i e h = rw h (rectangle-length (values_below i e.u) (value_of i e.u) (values_below i e.v) (value_of i e.v) e.w)

-- there is room for the pairs of copies of one edge more
pub room-pairs : (i : Network) (g : Multigraph) (k : ℕ) (e : InstanceEdge) → IsWithinLimits (size_of BMatch i) → g ≡ record {
  vertices = value_total i;
  edges = blocks (pairs_of_copies i) k;
} → k < length i.edges → e ≡ instance_edge_at i k → (length g.edges + length (pairs_between i e)) < 2 ^ 32
room-pairs i g k e limits is b here =
    let size : length g.edges ≡ sum_to (λ j. length (pairs_of_copies i j)) k = ap (λ (h : Multigraph). length h.edges) is ∙ blocks-length (pairs_of_copies i) k in
    let at : length (pairs_between i e) ≡ length (pairs_of_copies i k) = ap (λ (f : InstanceEdge). length (pairs_between i f)) here in
    omega (arith, size, at, sum_to-grows (λ j. length (pairs_of_copies i j)) k (length i.edges) b, blocks-length (pairs_of_copies i) (length i.edges), (copies_size i).edges, limits.edges)

-- the copies of all vertices end where those after the last would start
pub start-total : (i : Network) (values starts : List ℕ) (n x : ℕ) → values ≡ i.values → AreStarts (λ k. slice_index values k) (length values) starts → n ≡ vertices i → x
    ≡ slice_index_or starts n x → x ≡ value_total i
start-total i values starts n x same are count is =
    let size : length values ≡ vertices i = ap length same in
    let more : length starts ≡ length values + 1 = are.one_more in
    get_or_read starts n x (omega (arith, size, more, count)) is 0
    ∙ are.each n (omega (arith, size, count))
    ∙ ap (sum_to (λ k. slice_index values k)) count
    ∙ ap (λ (xs : List ℕ). sum_to (λ k. slice_index xs k) (vertices i)) same
