-- Each join has its perfect matching of the graph of ports: its edges between their ports, and the
-- free ports of each vertex, of which there is an even number, in pairs.
use Rattle.mb_problem.proofs.Common.{◌≡◌, ℕ, ◌+◌, ◌-◌, ◌*◌, ◌%◌, ◌<◌, ◌≤◌, ℤ, pos, ◌+ℤ◌, ◌*ℤ◌, cond, eqb, refl, ap, ap₂, sym, ◌∙◌}
use Rattle.mb_problem.proofs.Common.{arith, List, ◌++◌, length, get_or, slice_index, All, ints, get_or_append_left, get_or-append-add, All-append, sum_to, int_sum_to, Edge, no_edge}
use Rattle.mb_problem.proofs.Common.{edge_at, ends_at, degree, weight, IsPerfect, sum_to-same, sum_to-swap, sum_to-le, sum_to-one, times-sum_to, int_sum_to-same, int_sum_to-append, Network}
use Rattle.mb_problem.proofs.Common.{IsNetwork, vertices, graph_of, port_count, length-append, int_sum_to-none, sum_to-hit, sum_to-both}
use Rattle.gadget_base.proofs.Common.{blocks, tabled, clique, ports_below, between_ports, ports_graph, tabled-length, tabled-at, All-tabled, All-blocks, at_vertex, clique_table, nat-sum}
use Rattle.gadget_base.proofs.Common.{Sums, sums-append, sums-blocks, sums-tabled, pick, pick-block, at_place, clique-picks, taken, taken-small, weight-used}
use Rattle.gadget_tjoin.proofs.Ranks.{times_small, partners, partners-swap, partners-small, partners-each}
use Rattle.gadget_tjoin.proofs.Cliques.{place-others, all_clique}
use Rattle.gadget_tjoin.proofs.Places.{here, degree-here, group_size, before-is, group-of, link-at, link-meets}

-- the edges between ports, and the cliques
abbrev pub links : Network → (ℕ → ℕ) → List Edge
links i odd = tabled (between_ports i odd) (length i.edges)

abbrev pub cliques : Network → (ℕ → ℕ) → List Edge
cliques i odd = blocks (λ k. clique (ports_below i odd (k + 1)) (port_count i odd (k + 1)) (pos 0)) (vertices i)

pub links-size : (i : Network) (odd : ℕ → ℕ) → length (links i odd) ≡ length i.edges
links-size i odd = tabled-length (between_ports i odd) (length i.edges)

pub edges-size : (i : Network) (odd : ℕ → ℕ) → length (ports_graph i odd).edges ≡ length i.edges + length (cliques i odd)
edges-size i odd = length-append (links i odd) (cliques i odd) ∙ ap (λ (n : ℕ). n + length (cliques i odd)) (links-size i odd)

pub link-here : (i : Network) (odd : ℕ → ℕ) (k : ℕ) → k < length i.edges → edge_at (ports_graph i odd) k ≡ between_ports i odd k
link-here i odd k b = get_or_append_left (links i odd) (cliques i odd) no_edge k (omega (arith, links-size i odd)) ∙ tabled-at (between_ports i odd) (length i.edges) k no_edge b

pub clique-here : (i : Network) (odd : ℕ → ℕ) (k : ℕ) → edge_at (ports_graph i odd) (length i.edges + k) ≡ get_or (cliques i odd) k no_edge
clique-here i odd k =
    ap (λ (n : ℕ). get_or (links i odd ++ cliques i odd) (n + k) no_edge) (sym (links-size i odd))
    ∙ get_or-append-add (links i odd) (cliques i odd) k no_edge

-- how often the counted edges are at the place x of the group of vertex t + 1
abbrev pub used : Network → (ℕ → ℕ) → List ℕ → ℕ → ℕ → ℕ
used i odd counts t x = sum_to (λ k. slice_index counts k * ends_at (between_ports i odd k) (ports_below i odd (t + 1) + x + 1)) (length i.edges)

abbrev pub free : Network → (ℕ → ℕ) → List ℕ → ℕ → ℕ → ℕ
free i odd counts t x = 1 - used i odd counts t x

-- the counts of a join with those of the pairs
abbrev pub paired : Network → (ℕ → ℕ) → List ℕ → List ℕ
paired i odd counts =
    tabled (slice_index counts) (length i.edges) ++ blocks (λ t. clique_table (partners (free i odd counts t)) (port_count i odd (t + 1))) (vertices i)

-- what every join has: one count for each edge, at most 1, and its degrees' parities
pub record IsOddAt (i : Network) (odd : ℕ → ℕ) (counts : List ℕ) : Type 0 where
  pub one_each : length counts ≡ length i.edges
  pub value_limit : All (λ c. c ≤ 1) counts
  pub parity : (v : ℕ) → 1 ≤ v → v ≤ vertices i → degree (graph_of i) counts v % 2 ≡ odd v

-- the degrees at each place, in parts
paired_sums : (i : Network) (odd : ℕ → ℕ) (counts : List ℕ) (q : ℕ) → Sums sum_to (at_vertex (q + 1)) (ports_graph i odd).edges (paired i odd counts)
    (sum_to (λ k. slice_index counts k * ends_at (between_ports i odd k) (q + 1)) (length i.edges)
    + sum_to (λ s. pick (ports_below i odd (s + 1)) (group_size i odd s) (at_place (partners (free i odd counts s)) (group_size i odd s)) q) (vertices i))
paired_sums i odd counts q =
    sums-append nat-sum (sums-tabled nat-sum (at_vertex (q + 1)) (between_ports i odd) (slice_index counts) (length i.edges))
    (sums-blocks nat-sum (vertices i) (λ s _. clique-picks (partners (free i odd counts s)) (ports_below i odd (s + 1)) (group_size i odd s) (pos 0) q))

module _ (i : Network) (odd : ℕ → ℕ) (counts : List ℕ) (ok : IsNetwork i) (join : IsOddAt i odd counts) where
  used-small : (t x : ℕ) → x < group_size i odd t → used i odd counts t x ≤ 1
  used-small t x in_group =
      let a : ℕ → ℕ = λ k. ends_at (here i k) (t + 1) in
      let size = join.one_each in
      let below = sum_to-le (λ k. slice_index counts k * ends_at (between_ports i odd k) (ports_below i odd (t + 1) + x + 1)) (λ k. taken (sum_to a k) (a k) x) (length i.edges)
      (λ k b. rw (link-at i odd k t x ok b in_group) (times_small (slice_index counts k) _ (join.value_limit k 0 (omega (arith, size))))) in
      omega (arith, below, taken-small a (length i.edges) x)

  -- the places of a group together
  used-total : (t : ℕ) → sum_to (used i odd counts t) (group_size i odd t) ≡ degree (graph_of i) counts (t + 1)
  used-total t =
      sum_to-swap _ (group_size i odd t) (length i.edges)
      ∙ sum_to-same _ _ (length i.edges) (λ k b. sym (times-sum_to (slice_index counts k) _ (group_size i odd t))
      ∙ ap (λ (y : ℕ). slice_index counts k * y) (link-meets i odd k t ok b))
      ∙ sym (degree-here i counts (t + 1))

  free-total : (t : ℕ) → t < vertices i → sum_to (free i odd counts t) (group_size i odd t) % 2 ≡ 0
  free-total t b =
      let n = group_size i odd t in
      let parts = sum_to-both (λ _. 1) (free i odd counts t) (used i odd counts t) n (λ x l. omega (arith, used-small t x l)) in
      let parity : degree (graph_of i) counts (t + 1) % 2 ≡ odd (t + 1) = join.parity (t + 1) (omega arith) (omega arith) in
      omega (arith, parts, sum_to-one n, used-total t, parity)

  -- the degree at the place x of the group of vertex t + 1
  paired-degree : (t x : ℕ) → t < vertices i → x < group_size i odd t → degree (ports_graph i odd) (paired i odd counts) (ports_below i odd (t + 1) + x + 1) ≡ 1
  paired-degree t x b in_group =
      let size : ℕ → ℕ = group_size i odd in
      let c : ℕ → ℕ → ℕ → ℕ = λ s. partners (free i odd counts s) in
      let q = ports_below i odd (t + 1) + x in
      let own = sum_to-same (λ s. pick (ports_below i odd (s + 1)) (size s) (at_place (c s) (size s)) q) (λ s. cond (eqb s t) (at_place (c s) (size s) x) 0) (vertices i)
      (λ s _. ap₂ (λ (y z : ℕ). pick y (size s) (at_place (c s) (size s)) (z + x)) (before-is i odd s) (before-is i odd t) ∙ pick-block size (at_place (c s) (size s)) s t x in_group)
      ∙ sum_to-hit (λ s. at_place (c s) (size s) x) t (vertices i) b in
      let others = place-others (c t) (size t) x (partners-swap (free i odd counts t)) in_group in
      let rest = partners-each (free i odd counts t) x (size t) (λ k l. omega arith) (free-total t b) in_group in
      omega (arith, (paired_sums i odd counts q).is, own, others, rest, used-small t x in_group)

  -- the perfect matching of a join
  pub paired-perfect : IsPerfect (ports_graph i odd) (paired i odd counts)
  paired-perfect = record {
    one_each = sym (paired_sums i odd counts 0).one_each;
    at_most_one =
        let P : ℕ → Type 0 = λ q. q ≤ 1 in
        let size = join.one_each in
        All-append P (tabled (slice_index counts) (length i.edges)) _ (All-tabled P (slice_index counts) (length i.edges) (λ k b. join.value_limit k 0 (omega (arith, size))))
        (All-blocks P _ (vertices i)
        (λ s b.
        let n = group_size i odd s in
        All-blocks P _ n (λ a l. All-tabled P _ (n - 1 - a) (λ d l'. partners-small (free i odd counts s) a (a + d + 1) (omega arith) (omega arith)))));
    degrees = λ v low high.
        let r = group-of i odd (vertices i) v low high in
        ap (degree (ports_graph i odd) (paired i odd counts)) r.4 ∙ paired-degree r.0 r.1 r.2 r.3;
  }

times_none : (a : ℕ) (w : ℤ) → w ≡ pos 0 → pos a *ℤ w ≡ pos 0
times_none a w e = rw e (omega (arith, ints))

-- the pairs weigh nothing
pub ports-weight : (i : Network) (odd : ℕ → ℕ) (front counts : List ℕ) → ((k : ℕ) → k < length i.edges → slice_index counts k ≡ slice_index front k) → weight (ports_graph i odd) counts
    ≡ weight (graph_of i) front
ports-weight i odd front counts same =
    let rest = length (cliques i odd) in
    let nothing = All-blocks (λ e. e.w ≡ pos 0) _ (vertices i) (λ k b. all_clique (λ e. e.w ≡ pos 0) (ports_below i odd (k + 1)) (port_count i odd (k + 1)) (λ a b l l'. refl)) in
    ap (int_sum_to _) (edges-size i odd)
    ∙ int_sum_to-append _ (length i.edges) rest
    ∙ ap₂ (λ (s t : ℤ). s +ℤ t)
    (int_sum_to-same _ _ (length i.edges) (λ k b. ap₂ (λ (c : ℕ) (e : Edge). pos c *ℤ e.w) (same k b) (link-here i odd k b)))
    (int_sum_to-none _ rest (λ k b. times_none (slice_index counts (length i.edges + k)) _ (ap (λ (x : Edge). x.w) (clique-here i odd k) ∙ nothing k no_edge b)))
    ∙ omega (arith, ints)
    ∙ sym (weight-used i front)

pub paired-weight : (i : Network) (odd : ℕ → ℕ) (counts : List ℕ) → weight (ports_graph i odd) (paired i odd counts) ≡ weight (graph_of i) counts
paired-weight i odd counts = ports-weight i odd counts (paired i odd counts)
    (λ k b. get_or_append_left (tabled (slice_index counts) (length i.edges)) _ 0 k (omega (arith, tabled-length (slice_index counts) (length i.edges)))
    ∙ tabled-at (slice_index counts) (length i.edges) k 0 b)
