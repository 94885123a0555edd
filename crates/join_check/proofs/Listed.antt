-- How often an ascending list has each edge.
use Rattle.mb_problem.proofs.Common.{◌≡◌, ℕ, ◌+◌, ◌<◌, ◌≤◌, cond, List, length, All, sym, ◌∙◌, subst, arith, IsStrictlyIncreasing}
use Rattle.mb_problem.proofs.Common.{length-map-range_with_len, get_or-map-range_with_len, IsEdgeNumber, holds, listed_counts, Network, graph_of, edges-count}
use Rattle.graph_theory.specs.Parts.{IsVertexSet}
use Rattle.graph_theory.proofs.Passing.{passing-few, members-passing}
use Rattle.gadget_base.proofs.Common.{times, times_each, is-tabled, ascending-times}

-- numbers from 1 to that of the edges are those of edges
pub in-graph : (i : Network) (es : List ℕ) (m : ℕ) → m ≡ length i.edges → All (λ e. (1 ≤ e) × (e ≤ m)) es → All (IsEdgeNumber (graph_of i)) es
in-graph i es m count range = subst (λ (n : ℕ). All (λ e. (1 ≤ e) × (e ≤ n)) es) (count ∙ sym (edges-count i)) range

-- an ascending list of numbers of edges, as a set
as_set : (i : Network) (es : List ℕ) → IsStrictlyIncreasing es → All (IsEdgeNumber (graph_of i)) es → IsVertexSet (length i.edges) es
as_set i es up numbers = record { ascending = up; in_range = subst (λ (n : ℕ). All (λ e. (1 ≤ e) × (e ≤ n)) es) (edges-count i) numbers }

pub few-edges : (i : Network) (es : List ℕ) → IsStrictlyIncreasing es → All (IsEdgeNumber (graph_of i)) es → length es ≤ length i.edges
few-edges i es up numbers = subst (λ (xs : List ℕ). length xs ≤ length i.edges) (members-passing (length i.edges) es (as_set i es up numbers)) (passing-few (holds es) (length i.edges))

listed-once : (es : List ℕ) (k : ℕ) → IsStrictlyIncreasing es → times es (k + 1) ≡ cond (holds es (k + 1)) 1 0
listed-once es k up = ascending-times es (k + 1) up

pub times-listed : (i : Network) (es : List ℕ) → IsStrictlyIncreasing es → All (IsEdgeNumber (graph_of i)) es → times_each (graph_of i) es ≡ listed_counts es (length i.edges)
times-listed i es up numbers =
    let m = length i.edges in
    let f : ℕ → ℕ = λ e. cond (holds es e) 1 0 in
    let same : length (graph_of i).edges ≡ m = edges-count i in
    sym (is-tabled (listed_counts es m) (λ k. times es (k + 1)) (length (graph_of i).edges) (length-map-range_with_len f 1 m ∙ sym same)
    (λ k b. (let here : k < m = omega (arith, same, b) in get_or-map-range_with_len f 1 m k (k + 1) 0 here (omega arith) ∙ sym (listed-once es k up))))
