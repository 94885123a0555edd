-- A matching whose size even paths and a count of odd components prove greatest, in the instance.
use Rattle.mb_problem.proofs.Common.{◌≡◌, ℕ, ◌+◌, ◌≤◌, true, cond, eqb, ap, sym, ◌∙◌, subst, inl, inr, arith, List, [], ◌∷◌, length, map, slice_index, All}
use Rattle.mb_problem.proofs.Common.{nat_lt, IsStrictlyIncreasing, eqb-true, or_cases, false≢true, length-map, All-head, All-tail, Multigraph, IsGraph, IsEdgeNumber, holds, IsVertexSet}
use Rattle.mb_problem.proofs.Common.{sum_to-same, IsEvenPath, HaveEvenPaths, IsDecomposed, edges_used, IsMatched, IsGreatest, IsOuterSet, PathsDecompose, LoopsMatterNot, Network, IsNetwork}
use Rattle.mb_problem.proofs.Common.{vertices, graph_of, link_count, network-graph}
use Rattle.gadget_base.proofs.Common.{with_loops, times, times_each, ListsCounts, times-sum, times_each-at, ascending-once, count_all}
use Rattle.gallai.specs.Decompositions.{AreEvenPaths, ArePathsFrom, IsDecomposition}
use Rattle.gallai.proofs.Links.{instance_number}
use Rattle.gallai.proofs.Moved.{searched_graph, searched-count, moved, moved-numbers, moved-counts, moved-ascends, moved-matched}

used_once : (c t : ℕ) → t ≡ c → t ≤ 1 → cond (nat_lt 0 c) 1 0 ≡ t
used_once c t same few = grind (arith, same, few)

-- the edges of an ascending list are as many as it uses
pub listed-used : (g : Multigraph) (counts es : List ℕ) → IsStrictlyIncreasing es → ListsCounts g counts es → edges_used g counts ≡ length es
listed-used g counts es up lists =
    sum_to-same (λ k. cond (nat_lt 0 (slice_index counts k)) 1 0) (λ k. times es (k + 1)) (length g.edges)
    (λ k b. used_once (slice_index counts k) (times es (k + 1)) (lists.each k b) (ascending-once es (k + 1) up))
    ∙ (times-sum (λ _. true) es (length g.edges) lists.numbers ∙ count_all es)

-- a list as the counts that it has
pub listed-each : (g : Multigraph) (es : List ℕ) → All (IsEdgeNumber g) es → ListsCounts g (times_each g es) es
listed-each g es numbers = record { numbers = numbers; each = λ k b. sym (times_each-at g es k b) }

path_for : (i : Network) (counts : List ℕ) (paths : List (ℕ × List ℕ)) (v : ℕ) → AreEvenPaths i counts paths → holds (map (λ p. p.0) paths) v ≡ true
    → (es : List ℕ) × IsEvenPath (graph_of i) counts v es
path_for i counts [] v all there = absurd (false≢true there)
path_for i counts (p ∷ ps) v all there =
    let P : ℕ × List ℕ → Type 0 = λ q. IsEvenPath (graph_of i) counts q.0 q.1 in
    elim (or_cases (eqb p.0 v) (holds (map (λ q. q.0) ps) v) there) [
      | inl here ↦ (p.1, subst (λ w. IsEvenPath (graph_of i) counts w p.1) (eqb-true p.0 v here) (All-head P p ps all))
      | inr later ↦ path_for i counts ps v (All-tail P p ps all) later
    ]

-- what the graph without loops and weights says of the instance
pub from_links : (i : Network) (counts es d a : List ℕ) (paths : List (ℕ × List ℕ)) → IsNetwork i → PathsDecompose → LoopsMatterNot → IsMatched (searched_graph i) counts
    → ListsCounts (searched_graph i) counts es → IsStrictlyIncreasing es → IsVertexSet (vertices i) d → IsVertexSet (vertices i) a → IsDecomposed (searched_graph i) (length es) d a
    → ArePathsFrom i (with_loops i counts) d paths → IsDecomposition i (record { matching = moved i es; d = d; a = a; paths = paths })
from_links i counts es d a paths network decide loops matched lists up outer border decomposed from =
    let g = graph_of i in
    let graph : IsGraph g = network-graph i network in
    let size : length counts ≡ link_count i = matched.one_each ∙ searched-count i in
    let all = moved i es in
    let used = times_each g all in
    let same : used ≡ with_loops i counts = moved-counts i counts es lists in
    let mine : IsMatched g used = subst (IsMatched g) (sym same) (moved-matched i counts size matched) in
    let numbers : All (IsEdgeNumber g) all = moved-numbers i es lists.numbers in
    let ascending : IsStrictlyIncreasing all = moved-ascends i es lists.numbers up in
    let many : edges_used g used ≡ length all = listed-used g used all ascending (listed-each g all numbers) in
    let moved_size : length all ≡ length es = length-map es (instance_number i) in
    let split : IsDecomposed g (length es) d a = (loops g (length es) d a graph).1 decomposed in
    let whole : IsDecomposed g (edges_used g used) d a = subst (λ (n : ℕ). IsDecomposed g n d a) (sym (many ∙ moved_size)) split in
    let even : AreEvenPaths i used paths = subst (λ (cs : List ℕ). AreEvenPaths i cs paths) (sym same) from.each in
    let each : HaveEvenPaths g used d = λ v there. path_for i used paths v even (ap (λ (xs : List ℕ). holds xs v) from.starts_are ∙ there) in
    let said : IsGreatest g used × IsOuterSet g d = decide g used d a graph mine outer each whole in
    record {
      ascending = ascending;
      numbers = numbers;
      greatest = said.0;
      outer_set = outer;
      outer = said.1;
      border_set = border;
      border = split.is_border;
      starts = from.starts_are;
      paths = even;
      decomposed = subst (λ (n : ℕ). IsDecomposed (searched_graph i) n d a) (sym moved_size) decomposed;
    }
