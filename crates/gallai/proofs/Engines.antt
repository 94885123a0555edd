-- What is read off an engine, by the numbers of the instance.
use Rattle.mb_problem.proofs.Common.{◌≡◌, ℕ, ◌+◌, ◌-◌, ◌≤◌, ap, sym, ◌∙◌, subst, arith, List, [], ◌∷◌, ◌++◌, length, map, slice_index, All, map-append, All-push}
use Rattle.mb_problem.proofs.Common.{IsStrictlyIncreasing, Multigraph, IsEdgeNumber, IsPerfect, IsWithinLimits, IsVertexSet, IsEvenPath, IsDecomposed, edges_used, IsMatched, PathsDecompose}
use Rattle.mb_problem.proofs.Common.{LoopsMatterNot, Network, IsNetwork, vertices, graph_of, link_count}
use Rattle.gadget_base.proofs.Common.{with_loops, ListsCounts, links-few, times_each, ascending-once, few-steps}
use Rattle.mwpm_engine.specs.Solutions.{Solution, IsBarred, IsSolved, matching_of, size_of_graph}
use Rattle.gallai.specs.Decompositions.{ArePathsFrom, IsDecomposition, link_numbers}
use Rattle.gallai.proofs.Links.{numbers-length}
use Rattle.gallai.proofs.Moved.{searched_graph, searched-count, moved, moved-path, moved-numbers, moved-ascends, moved-counts}
use Rattle.gallai.proofs.Greatest.{from_links, listed-used}
use Rattle.gallai.proofs.Whole.{whole-found}

module _ (i : Network) (g : Multigraph) (numbers : List ℕ) (same : g ≡ searched_graph i) (links : numbers ≡ link_numbers i) where
  pub in_numbers : (es : List ℕ) → All (IsEdgeNumber g) es → All (λ e. (1 ≤ e) × (e ≤ length numbers)) es
  in_numbers es all =
      let graph_size : length g.edges ≡ link_count i = ap (λ (h : Multigraph). length h.edges) same ∙ searched-count i in
      let list_size : length numbers ≡ link_count i = ap (λ (ns : List ℕ). length ns) links ∙ numbers-length i in
      subst (λ (n : ℕ). All (λ e. (1 ≤ e) × (e ≤ n)) es) (graph_size ∙ sym list_size) all

  pub by_numbers : (es : List ℕ) → map (λ e. slice_index numbers (e - 1)) es ≡ moved i es
  by_numbers es = ap (λ (ns : List ℕ). map (λ e. slice_index ns (e - 1)) es) links

  -- a path of the engine
  pub path-given : (counts : List ℕ) (v : ℕ) (es all : List ℕ) → length counts ≡ length g.edges → IsEvenPath g counts v es → all ≡ map (λ e. slice_index numbers (e - 1)) es
      → IsEvenPath (graph_of i) (with_loops i counts) v all
  path-given counts v es all size path is =
      let many : length counts ≡ link_count i = size ∙ (ap (λ (h : Multigraph). length h.edges) same ∙ searched-count i) in
      subst (λ (xs : List ℕ). IsEvenPath (graph_of i) (with_loops i counts) v xs) (sym (is ∙ by_numbers es))
      (moved-path i counts v es many (subst (λ (h : Multigraph). IsEvenPath h counts v es) same path))

-- one path more
pub paths-push : (i : Network) (counts starts : List ℕ) (paths : List (ℕ × List ℕ)) (v : ℕ) (es : List ℕ) → ArePathsFrom i counts starts paths
    → IsEvenPath (graph_of i) counts v es
    → ArePathsFrom i counts (starts ++ v ∷ []) (paths ++ (v, es) ∷ [])
paths-push i counts starts paths v es before path = record {
  starts_are = map-append (λ p. p.0) paths ((v, es) ∷ []) ∙ ap (λ (xs : List ℕ). xs ++ v ∷ []) before.starts_are;
  each = All-push (λ p. IsEvenPath (graph_of i) counts p.0 p.1) paths (v, es) before.each path;
}

-- a stuck forest
pub parted-found : (i : Network) (s : Solution) (h : Multigraph) (numbers es all d a : List ℕ) (paths : List (ℕ × List ℕ)) → IsNetwork i → PathsDecompose → LoopsMatterNot
    → h ≡ searched_graph i → s.graph ≡ h → numbers ≡ link_numbers i → IsBarred s → ListsCounts h (matching_of h s.mates) es → IsStrictlyIncreasing es
    → all ≡ map (λ e. slice_index numbers (e - 1)) es → d ≡ s.outer → a ≡ s.barrier → ArePathsFrom i (with_loops i (matching_of s.graph s.mates)) d paths
    → IsDecomposition i (record { matching = all; d = d; a = a; paths = paths })
parted-found i s h numbers es all d a paths network decide loops is same links ends lists up listed outer border from =
    let k = searched_graph i in
    let counts = matching_of s.graph s.mates in
    let searched : s.graph ≡ k = same ∙ is in
    let ours : ListsCounts k counts es = subst (λ (g : Multigraph). ListsCounts g counts es) is (subst (λ (g : Multigraph). ListsCounts h (matching_of g s.mates) es) (sym same) lists) in
    let matched : IsMatched k counts = subst (λ (g : Multigraph). IsMatched g counts) searched ends.beside.matched in
    let outer_set : IsVertexSet (vertices i) d = subst (IsVertexSet (vertices i)) (sym outer) (subst (λ (g : Multigraph). IsVertexSet g.vertices s.outer) searched ends.beside.outer_set) in
    let border_set : IsVertexSet (vertices i) a = subst (IsVertexSet (vertices i)) (sym border) (subst (λ (g : Multigraph). IsVertexSet g.vertices s.barrier) searched ends.vertex_set) in
    let size : edges_used k counts ≡ length es = listed-used k counts es up ours in
    let first : IsDecomposed k (edges_used k counts) s.outer s.barrier =
    subst (λ (g : Multigraph). IsDecomposed g (edges_used g counts) s.outer s.barrier) searched ends.beside.decomposed in
    let second : IsDecomposed k (length es) s.outer s.barrier = subst (λ (n : ℕ). IsDecomposed k n s.outer s.barrier) size first in
    let third : IsDecomposed k (length es) d s.barrier = subst (λ (xs : List ℕ). IsDecomposed k (length es) xs s.barrier) (sym outer) second in
    let decomposed : IsDecomposed k (length es) d a = subst (IsDecomposed k (length es) d) (sym border) third in
    subst (λ (xs : List ℕ). IsDecomposition i (record { matching = xs; d = d; a = a; paths = paths })) (sym (listed ∙ by_numbers i h numbers is links es))
    (from_links i counts es d a paths network decide loops matched ours up outer_set border_set decomposed from)

-- a perfect matching
pub matched-found : (i : Network) (s : Solution) (h : Multigraph) (numbers es all d a : List ℕ) (paths : List (ℕ × List ℕ)) → IsNetwork i → PathsDecompose → LoopsMatterNot
    → h ≡ searched_graph i → s.graph ≡ h → numbers ≡ link_numbers i → IsSolved s → ListsCounts h (matching_of h s.mates) es → IsStrictlyIncreasing es
    → all ≡ map (λ e. slice_index numbers (e - 1)) es → d ≡ [] → a ≡ [] → paths ≡ [] → IsDecomposition i (record { matching = all; d = d; a = a; paths = paths })
matched-found i s h numbers es all d a paths network decide loops is same links ends lists up listed no_d no_a no_path =
    let k = searched_graph i in
    let counts = matching_of s.graph s.mates in
    let ours : ListsCounts k counts es = subst (λ (g : Multigraph). ListsCounts g counts es) is (subst (λ (g : Multigraph). ListsCounts h (matching_of g s.mates) es) (sym same) lists) in
    let perfect : IsPerfect k counts = subst (λ (g : Multigraph). IsPerfect g counts) (same ∙ is) ends.perfect in
    rw (listed ∙ by_numbers i h numbers is links es, no_d, no_a, no_path) (whole-found i counts es network decide loops perfect ours up)

-- what is searched is within the limits
pub within_limits : (i : Network) (g : Multigraph) → IsNetwork i → g ≡ searched_graph i → IsWithinLimits (size_of_graph g)
within_limits i g network same =
    let few_vertices = network.few_vertices in
    let few_edges = network.few_edges in
    rw same (record { vertices = omega (arith, few_vertices); edges = omega (arith, few_edges, searched-count i, links-few i (length i.edges)) })

-- the counts of a matching by the numbers of the instance
pub record AreCounted (i : Network) (s : Solution) (all : List ℕ) : Type 0 where
  pub numbers : All (IsEdgeNumber (graph_of i)) all
  pub size_limit : length all ≤ length i.edges
  pub counts : times_each (graph_of i) all ≡ with_loops i (matching_of s.graph s.mates)

pub counted-edges : (i : Network) (s : Solution) (h : Multigraph) (numbers es all : List ℕ) → h ≡ searched_graph i → s.graph ≡ h → numbers ≡ link_numbers i
    → ListsCounts h (matching_of h s.mates) es → IsStrictlyIncreasing es → all ≡ map (λ e. slice_index numbers (e - 1)) es → AreCounted i s all
counted-edges i s h numbers es all is same links lists up listed =
    let k = searched_graph i in
    let counts = matching_of s.graph s.mates in
    let moves : all ≡ moved i es = listed ∙ by_numbers i h numbers is links es in
    let ours : ListsCounts k counts es = subst (λ (g : Multigraph). ListsCounts g counts es) is (subst (λ (g : Multigraph). ListsCounts h (matching_of g s.mates) es) (sym same) lists) in
    let edges : All (IsEdgeNumber (graph_of i)) (moved i es) = moved-numbers i es ours.numbers in
    let short = few-steps 1 i (moved i es) edges (λ e b. ascending-once (moved i es) (e + 1) (moved-ascends i es ours.numbers up)) in
    rw moves (record { numbers = edges; size_limit = omega (arith, short); counts = moved-counts i counts es ours })
