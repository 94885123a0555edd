-- What the steps of the builder owe: sizes that fit, and the tables of the groups.
use Rattle.mb_problem.proofs.Common.{◌≡◌, ℕ, ◌+◌, ◌-◌, ◌*◌, ◌/◌, ◌<◌, ◌≤◌, ◌^◌, pos, cond, ap, sym, subst, ◌∙◌, arith, List, [], ◌∷◌}
use Rattle.mb_problem.proofs.Common.{◌++◌, length, slice_index, sum_to, Edge, GRAPH_VERTEX_LIMIT, Multigraph, ends_at, sum_to-same, sum_to-more, Network, IsNetwork, vertices, plain}
use Rattle.mb_problem.proofs.Common.{instance_edge_at, port_count, ports_size, is_loop_at, IsWithinLimits, sum_to-grows}
use Rattle.mb_problem.specs.declared.instance.InstanceEdge.{InstanceEdge}
use Rattle.gadget_base.proofs.Common.{blocks, tabled, clique, ports_below, met_below, port_of, between_ports, ports_graph, AreStarts, tabled-length, tabled-more, blocks-length, blocks-same}
use Rattle.gadget_base.proofs.Common.{clique-length, grown-length}
use Rattle.gadget_tjoin.specs.Groups.{AreGroups, next_link}
use Rattle.gadget_tjoin.proofs.Places.{here, within, group_size, before-is, groups-apart}
use Rattle.gadget_tjoin.proofs.PortEdges.{link-within}

sizes-sum : (i : Network) (odd : ℕ → ℕ) (sizes : List ℕ) (n : ℕ) → ((k : ℕ) → k < vertices i → slice_index sizes k ≡ port_count i odd (k + 1)) → n ≤ vertices i
    → sum_to (λ k. slice_index sizes k) n ≡ sum_to (group_size i odd) n
sizes-sum i odd sizes n are b = sum_to-same (λ k. slice_index sizes k) (group_size i odd) n (λ k l. are k (omega arith))

-- all sizes together fit
pub sizes-fit : (i : Network) (odd : ℕ → ℕ) (sizes : List ℕ) → IsWithinLimits (ports_size i odd) → length sizes ≡ vertices i → ((k : ℕ) → k < vertices i → slice_index sizes k
    ≡ port_count i odd (k + 1)) → sum_to (λ k. slice_index sizes k) (length sizes) < 2 ^ 32
sizes-fit i odd sizes limits one_each are =
    let most : sum_to (group_size i odd) (vertices i) ≤ GRAPH_VERTEX_LIMIT = limits.vertices in
    let whole : sum_to (λ k. slice_index sizes k) (length sizes) ≡ sum_to (λ k. slice_index sizes k) (vertices i) = ap (sum_to (λ k. slice_index sizes k)) one_each in
    omega (arith, most, whole, sizes-sum i odd sizes (vertices i) are (omega arith))

-- sizes and where they start are the groups
pub groups-are : (i : Network) (odd : ℕ → ℕ) (before sizes : List ℕ) → length sizes ≡ vertices i → ((k : ℕ) → k < vertices i → slice_index sizes k ≡ port_count i odd (k + 1))
    → AreStarts (λ k. slice_index sizes k) (length sizes) before → AreGroups i odd before sizes
groups-are i odd before sizes one_each are starts = record {
  one_size_each = one_each;
  one_more = let more = starts.one_more in omega (arith, more, one_each);
  sizes_are = are;
  before_are = λ k b. starts.each k (omega (arith, one_each, b)) ∙ sizes-sum i odd sizes k are b ∙ sym (before-is i odd k);
}

-- the ports that are left

pub next-at : (i : Network) (odd : ℕ → ℕ) (next : List ℕ) (k w : ℕ) → 1 ≤ w → w ≤ vertices i → ((t : ℕ) → t < vertices i → slice_index next t ≡ ports_below i odd (t + 1) + met_below i
    (t + 1) k) → slice_index next (w - 1) ≡ ports_below i odd w + met_below i w k
next-at i odd next k w low high each =
    let back : w - 1 + 1 ≡ w = omega arith in
    each (w - 1) (omega arith) ∙ ap (λ (x : ℕ). ports_below i odd x + met_below i x k) back

pub few-ports : (i : Network) (odd : ℕ → ℕ) → IsWithinLimits (ports_size i odd) → ports_below i odd (vertices i + 1) ≤ GRAPH_VERTEX_LIMIT
few-ports i odd limits =
    let most : sum_to (group_size i odd) (vertices i) ≤ GRAPH_VERTEX_LIMIT = limits.vertices in
    omega (arith, most, before-is i odd (vertices i))

-- a graph with the first k edges between ports
pub links-fit : (i : Network) (odd : ℕ → ℕ) (g : Multigraph) (n k : ℕ) → g ≡ record { vertices = n; edges = tabled (between_ports i odd) k } → length g.edges ≡ k
links-fit i odd g n k is = ap (λ (h : Multigraph). length h.edges) is ∙ tabled-length (between_ports i odd) k

-- the cliques

pub cliques-fit : (g h : Multigraph) (before sizes : List ℕ) (k : ℕ) → length g.edges + sum_to (λ k. slice_index sizes k * (slice_index sizes k - 1) / 2) (length sizes) < 2 ^ 32
    → k < length sizes → h ≡ record g { edges = g.edges ++ blocks (λ j. clique (slice_index before j) (slice_index sizes j) (pos 0)) k } → length h.edges + slice_index sizes k *
    (slice_index sizes k - 1) / 2 < 2 ^ 32
cliques-fit g h before sizes k room b is =
    let f : ℕ → List Edge = λ j. clique (slice_index before j) (slice_index sizes j) (pos 0) in
    let count : ℕ → ℕ = λ j. slice_index sizes j * (slice_index sizes j - 1) / 2 in
    let so_far : length (blocks f k) ≡ sum_to count k = blocks-length f k
    ∙ sum_to-same (λ j. length (f j)) count k (λ j l. clique-length (slice_index before j) (slice_index sizes j) (pos 0)) in
    let now = grown-length g h (blocks f k) is in
    let grows = sum_to-grows count k (length sizes) b in
    omega (arith, so_far, now, grows, room)

pub groups-inside : (i : Network) (odd : ℕ → ℕ) (before sizes : List ℕ) (k : ℕ) → AreGroups i odd before sizes → k < length sizes → slice_index before k + slice_index sizes k
    ≤ ports_below i odd (vertices i + 1)
groups-inside i odd before sizes k groups b =
    let size = groups.one_size_each in
    let one = groups.sizes_are k (omega (arith, size, b)) in
    let two = groups.before_are k (omega (arith, size, b)) in
    let next = groups-apart i odd k (vertices i) (omega (arith, size, b)) in
    omega (arith, one, two, next)

pub groups-room : (i : Network) (odd : ℕ → ℕ) (before sizes : List ℕ) → IsWithinLimits (ports_size i odd) → AreGroups i odd before sizes → length i.edges + sum_to
    (λ k. slice_index sizes k * (slice_index sizes k - 1) / 2) (length sizes) < 2 ^ 32
groups-room i odd before sizes limits groups =
    let most : length i.edges + sum_to (λ k. port_count i odd (k + 1) * (port_count i odd (k + 1) - 1) / 2) (vertices i) ≤ 1048576 = limits.edges in
    let count : ℕ → ℕ = λ k. slice_index sizes k * (slice_index sizes k - 1) / 2 in
    let whole : sum_to count (length sizes) ≡ sum_to count (vertices i) = ap (sum_to count) groups.one_size_each in
    let same = sum_to-same count (λ k. port_count i odd (k + 1) * (port_count i odd (k + 1) - 1) / 2) (vertices i) (λ k b. ap (λ (n : ℕ). n * (n - 1) / 2) (groups.sizes_are k b)) in
    omega (arith, most, whole, same)

pub groups-cliques : (i : Network) (odd : ℕ → ℕ) (before sizes : List ℕ) → AreGroups i odd before sizes
    → blocks (λ k. clique (slice_index before k) (slice_index sizes k) (pos 0)) (length sizes)
    ≡ blocks (λ k. clique (ports_below i odd (k + 1)) (port_count i odd (k + 1)) (pos 0)) (vertices i)
groups-cliques i odd before sizes groups =
    let f : ℕ → List Edge = λ k. clique (slice_index before k) (slice_index sizes k) (pos 0) in
    ap (blocks f) groups.one_size_each
    ∙ blocks-same f (λ k. clique (ports_below i odd (k + 1)) (port_count i odd (k + 1)) (pos 0)) (vertices i)
    (λ k b. ap (λ (n : ℕ). clique n (slice_index sizes k) (pos 0)) (groups.before_are k (omega arith))
    ∙ ap (λ (n : ℕ). clique (ports_below i odd (k + 1)) n (pos 0)) (groups.sizes_are k b))

-- the step of the loop over the edges

-- the edge between the next ports of an edge that was read
pub next-link : (i : Network) (odd : ℕ → ℕ) (next : List ℕ) (k : ℕ) (e : InstanceEdge) → IsNetwork i → k < length i.edges → e ≡ instance_edge_at i k → ((t : ℕ) → t < vertices i
    → slice_index next t ≡ ports_below i odd (t + 1) + met_below i (t + 1) k) → next_link next e ≡ between_ports i odd k
next-link i odd next k e ok b is each =
    let ends = within i k ok b in
    let w = (here i k).w in
    let side = cond {A = ℕ} (is_loop_at i k) 1 0 in
    let at_u = next-at i odd next k (here i k).u ends.u_low ends.u_high each in
    let at_v = next-at i odd next k (here i k).v ends.v_low ends.v_high each in
    ap (next_link next) is
    ∙ ap (λ (x : ℕ). record { u = x + 1; v = slice_index next ((here i k).v - 1) + 1 + side; w = w }) at_u
    ∙ ap (λ (x : ℕ). record { u = port_of i odd k (here i k).u; v = x + 1 + side; w = w }) at_v

pub link-ends : (i : Network) (odd : ℕ → ℕ) (k : ℕ) → IsNetwork i → k < length i.edges → IsWithinLimits (ports_size i odd) → ((between_ports i odd k).u ≤ GRAPH_VERTEX_LIMIT)
    × ((between_ports i odd k).v ≤ GRAPH_VERTEX_LIMIT)
link-ends i odd k ok b limits =
    let ends = link-within i odd k ok b in
    let few = few-ports i odd limits in
    (let high = ends.u_high in omega (arith, high, few), let high = ends.v_high in omega (arith, high, few))

-- there are so few ports
pub next-small : (i : Network) (odd : ℕ → ℕ) (next : List ℕ) (k : ℕ) (e : InstanceEdge) → IsNetwork i → k < length i.edges → IsWithinLimits (ports_size i odd) → next_link next e
    ≡ between_ports i odd k → (slice_index next (e.u - 1) < GRAPH_VERTEX_LIMIT) × (slice_index next (e.v - 1) < GRAPH_VERTEX_LIMIT)
next-small i odd next k e ok b limits same =
    let most = link-ends i odd k ok b limits in
    let high_u : (next_link next e).u ≤ GRAPH_VERTEX_LIMIT = subst (λ (x : Edge). x.u ≤ GRAPH_VERTEX_LIMIT) (sym same) most.0 in
    let high_v : (next_link next e).v ≤ GRAPH_VERTEX_LIMIT = subst (λ (x : Edge). x.v ≤ GRAPH_VERTEX_LIMIT) (sym same) most.1 in
    (omega (arith, high_u), omega (arith, high_v))

pub grown-link : (f : ℕ → Edge) (h new : Multigraph) (n k : ℕ) (e : Edge) → h ≡ record { vertices = n; edges = tabled f k } → new ≡ record {
  vertices = h.vertices;
  edges = h.edges ++ e ∷ [];
} → e ≡ f k → new ≡ record { vertices = n; edges = tabled f (k + 1) }
grown-link f h new n k e old is here =
    let make : List Edge → Multigraph = λ es. record { vertices = n; edges = es } in
    is
    ∙ ap (λ (g : Multigraph). record { vertices = g.vertices; edges = g.edges ++ e ∷ [] }) old
    ∙ ap (λ (x : Edge). make (tabled f k ++ x ∷ [])) here
    ∙ ap make (sym (tabled-more f k))

-- both ends have one port less
pub next-step : (i : Network) (odd : ℕ → ℕ) (k t x y : ℕ) (e : InstanceEdge) → e ≡ instance_edge_at i k → x ≡ ports_below i odd (t + 1) + met_below i (t + 1) k → y
    ≡ x + ends_at (plain e) (t + 1) → y ≡ ports_below i odd (t + 1) + met_below i (t + 1) (k + 1)
next-step i odd k t x y e is old new =
    let more = sum_to-more (λ j. ends_at (here i j) (t + 1)) k in
    let same : ends_at (plain e) (t + 1) ≡ ends_at (here i k) (t + 1) = ap (λ (z : InstanceEdge). ends_at (plain z) (t + 1)) is in
    omega (arith, more, same, old, new)

-- the graph of ports, of its two parts
pub filled-graph : (i : Network) (odd : ℕ → ℕ) (before sizes : List ℕ) (n : ℕ) (g h : Multigraph) → AreGroups i odd before sizes → n ≡ ports_below i odd (vertices i + 1) → g ≡ record {
  vertices = n;
  edges = tabled (between_ports i odd) (length i.edges);
} → h ≡ record { vertices = g.vertices; edges = g.edges ++ blocks (λ k. clique (slice_index before k) (slice_index sizes k) (pos 0)) (length sizes) } → h ≡ ports_graph i odd
filled-graph i odd before sizes n g h groups size first second =
    let f : ℕ → List Edge = λ k. clique (slice_index before k) (slice_index sizes k) (pos 0) in
    let make : ℕ → List Edge → Multigraph = λ n es. record { vertices = n; edges = es } in
    second
    ∙ ap (λ (x : Multigraph). make x.vertices (x.edges ++ blocks f (length sizes))) first
    ∙ ap (λ (x : ℕ). make x (tabled (between_ports i odd) (length i.edges) ++ blocks f (length sizes))) size
    ∙ ap (λ (es : List Edge). make (ports_below i odd (vertices i + 1)) (tabled (between_ports i odd) (length i.edges) ++ es)) (groups-cliques i odd before sizes groups)
