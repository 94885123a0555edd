-- A perfect matching: no odd component, and no vertex that a greatest matching misses.
use Rattle.mb_problem.proofs.Common.{◌≡◌, ℕ, ◌*◌, ◌<◌, ◌≤◌, pos, ◌≤ℤ◌, Bool, true, false, cond, refl, ap, sym, ◌∙◌, subst, arith, List, [], ◌∷◌}
use Rattle.mb_problem.proofs.Common.{length, slice_index, All, IsStrictlyIncreasing, ints, false≢true, length-map, All-cons, All-nil, Multigraph, IsGraph, IsEdgeWithin, IsPerfect, edge_at}
use Rattle.mb_problem.proofs.Common.{crosses, IsVertexSet, IsComponent, IsOddCount, IsOddComponent, crossed-le, crossings, crosses_odd, IsEvenPath, IsDecomposed, weightless, IsMatched}
use Rattle.mb_problem.proofs.Common.{PathsDecompose, LoopsMatterNot, Network, IsNetwork, vertices, graph_of, plain_graph, network-graph, sum_to-none}
use Rattle.gadget_base.proofs.Common.{with_loops, ListsCounts, plain-within, with_loops-perfect, list_from_perfect, list-length, plain-no_loop}
use Rattle.gallai.specs.Decompositions.{IsDecomposition}
use Rattle.gallai.proofs.Moved.{searched_graph, moved, unweighted-degree}
use Rattle.gallai.proofs.Greatest.{from_links}

none_crosses : (t : Bool) → cond t (pos 1) (pos 0) ≤ℤ pos 0 → t ≡ false
none_crosses true h = absurd (omega (arith, ints, h))
none_crosses false h = refl

-- no edge crosses a component of the whole graph
uncrossed : (g : Multigraph) (component : List ℕ) (k : ℕ) → All (IsEdgeWithin g.vertices) g.edges → IsOddComponent g [] component → k < length g.edges
    → crosses component (edge_at g k) ≡ false
uncrossed g component k ends odd b =
    let most = crossed-le g [] (component ∷ []) k ends (All-cons (IsOddComponent g []) component [] odd (All-nil (IsOddComponent g [])))
    (λ i j d below last. absurd (omega (arith, below, last))) b in
    none_crosses (crosses component (edge_at g k)) (omega (arith, ints, most))

no_odd : (g : Multigraph) (counts component : List ℕ) → All (IsEdgeWithin g.vertices) g.edges → IsPerfect g counts → IsOddComponent g [] component → ⊥
no_odd g counts component ends perfect odd =
    let is : IsComponent g [] component = odd.0 in
    let some : 1 ≤ crossings g counts component = crosses_odd g counts component ends perfect odd.1 is.vertices.ascending is.vertices.in_range in
    let none : crossings g counts component ≡ 0 = sum_to-none (λ k. cond (crosses component (edge_at g k)) (slice_index counts k) 0) (length g.edges)
    (λ k b. ap (λ (t : Bool). cond t (slice_index counts k) 0) (uncrossed g component k ends odd b)) in
    absurd (omega (arith, some, none))

none_odd : (g : Multigraph) (counts : List ℕ) → All (IsEdgeWithin g.vertices) g.edges → IsPerfect g counts → IsOddCount g [] 0
none_odd g counts ends perfect = record {
  heads = [];
  ascending = λ k b. absurd (omega (arith, b));
  exact = λ v. (λ h. absurd (false≢true h), λ head. absurd (no_odd g counts head.0 ends perfect (head.1, head.2)));
  size = refl;
}

whole-decomposed : (g : Multigraph) (counts : List ℕ) (size : ℕ) → All (IsEdgeWithin g.vertices) g.edges → IsPerfect g counts → 2 * size ≡ g.vertices
    → IsDecomposed g size [] []
whole-decomposed g counts size ends perfect half = record {
  is_border = λ v. (λ h. absurd (false≢true h), λ beside. absurd (false≢true beside.inside));
  odd = 0;
  counted = none_odd g counts ends perfect;
  enough = omega (arith, half);
  inside = λ component v is odd there. absurd (no_odd g counts component ends perfect (is, odd));
}

no_vertices : (n : ℕ) → IsVertexSet n []
no_vertices n = record { ascending = λ k b. absurd (omega (arith, b)); in_range = All-nil (λ v. (1 ≤ v) × (v ≤ n)) }

perfect-plain : (i : Network) (counts : List ℕ) → IsPerfect (searched_graph i) counts → IsPerfect (plain_graph i) counts
perfect-plain i counts perfect = record {
  one_each = perfect.one_each ∙ length-map (plain_graph i).edges weightless;
  at_most_one = perfect.at_most_one;
  degrees = λ v low high. sym (unweighted-degree (plain_graph i) counts v) ∙ perfect.degrees v low high;
}

lists-plain : (i : Network) (counts es : List ℕ) → ListsCounts (searched_graph i) counts es → ListsCounts (plain_graph i) counts es
lists-plain i counts es lists =
    let same = length-map (plain_graph i).edges weightless in
    record {
      numbers = subst (λ (n : ℕ). All (λ e. (1 ≤ e) × (e ≤ n)) es) same lists.numbers;
      each = λ k b. lists.each k (omega (arith, same, b));
    }

perfect-matched : (g : Multigraph) (counts : List ℕ) → IsPerfect g counts → IsMatched g counts
perfect-matched g counts perfect = record {
  one_each = perfect.one_each;
  at_most_once = perfect.at_most_one;
  degrees = λ v low high. (let one = perfect.degrees v low high in omega (arith, one));
}

pub whole-found : (i : Network) (counts es : List ℕ) → IsNetwork i → PathsDecompose → LoopsMatterNot → IsPerfect (searched_graph i) counts
    → ListsCounts (searched_graph i) counts es
    → IsStrictlyIncreasing es → IsDecomposition i (record { matching = moved i es; d = []; a = []; paths = [] })
whole-found i counts es network decide loops perfect lists up =
    let g = graph_of i in
    let links : IsPerfect (plain_graph i) counts = perfect-plain i counts perfect in
    let graph : IsGraph g = network-graph i network in
    let half : 2 * length es ≡ vertices i = list-length (plain_graph i) es (plain-within i network) (plain-no_loop i)
    (list_from_perfect (plain_graph i) counts es (plain-no_loop i) links (lists-plain i counts es lists)) in
    let split = whole-decomposed g (with_loops i counts) (length es) graph.ends (with_loops-perfect i counts links) half in
    from_links i counts es [] [] [] network decide loops (perfect-matched (searched_graph i) counts perfect) lists up (no_vertices (vertices i)) (no_vertices (vertices i))
    ((loops g (length es) [] [] graph).0 split) (record { starts_are = refl; each = All-nil (λ p. IsEvenPath g (with_loops i counts) p.0 p.1) })
