-- How often feasible answers use an edge, and that nothing used is a matching.
use Rattle.graph_theory.proofs.Common.{◌≡◌, ℕ, zero, suc, ◌*◌, ◌<◌, ◌≤◌, min, true, List, length, slice_index, Option, Some, None, IfSome, ap, ◌∙◌, subst, arith}
use Rattle.graph_theory.proofs.Common.{replicate, le-min, get_or-replicate, length-replicate, All-replicate, Multigraph, IsEdgeWithin, edge_at, ends_at, degree, touches, no_edge}
use Rattle.graph_theory.proofs.Common.{ends_at-some, touches-u, touches-v, sum_to-has, sum_to-same, sum_to-zero}
use Rattle.graph_theory.specs.declared.edge.Edge.{Edge}
use Rattle.mb_problem.specs.Network.{Network, IsNetwork, vertices, value_of, graph_of, instance_edge_at}
use Rattle.mb_problem.specs.Feasible.{AtMostOnce, DegreesMeet, IsBMatching, IsMatching}
use Rattle.mb_problem.specs.Size.{bounded}
use Rattle.mb_problem.proofs.EdgeLemmas.{edges-count, network-graph, edge_at-graph_of}

pub once : (i : Network) (counts : List ℕ) → length counts ≡ length i.edges → AtMostOnce counts → (k : ℕ) → k < length i.edges → slice_index counts k ≤ 1
once i counts size all k below = all k 0 (omega (arith, size, below))

pub times-some : (a b : ℕ) → 1 ≤ b → a ≤ a * b
times-some a zero some = absurd (omega arith)
times-some a (suc b) some = omega arith

-- an edge is counted at most as often as the degree of an end says
pub counted-within : (g : Multigraph) (counts : List ℕ) (v k : ℕ) → k < length g.edges → touches (edge_at g k) v ≡ true → slice_index counts k ≤ degree g counts v
counted-within g counts v k here meets =
    let term = sum_to-has (λ k. slice_index counts k * ends_at (edge_at g k) v) (length g.edges) k here in
    omega (arith, term, times-some (slice_index counts k) (ends_at (edge_at g k) v) (ends_at-some (edge_at g k) v meets))

-- no edge is used more often than the degrees at its ends may go
pub limited : (i : Network) (counts : List ℕ) (most : ℕ → ℕ) → IsNetwork i → DegreesMeet i counts (λ v d. d ≤ most v) → (k : ℕ) → k < length i.edges
    → slice_index counts k ≤ min (most (instance_edge_at i k).u) (most (instance_edge_at i k).v)
limited i counts most network meets k below =
    let g = graph_of i in
    let ends = (network-graph i network).ends in
    let same : length g.edges ≡ length i.edges = edges-count i in
    let here : k < length g.edges = omega arith in
    let e = edge_at g k in
    let within : IsEdgeWithin (vertices i) e = ends k no_edge here in
    let at_first : degree g counts e.u ≤ most e.u = meets e.u within.u_low within.u_high in
    let at_second : degree g counts e.v ≤ most e.v = meets e.v within.v_low within.v_high in
    let by_u : slice_index counts k ≤ most e.u = omega (arith, counted-within g counts e.u k here (touches-u e), at_first) in
    let by_v : slice_index counts k ≤ most e.v = omega (arith, counted-within g counts e.v k here (touches-v e), at_second) in
    subst (λ (x : Edge). slice_index counts k ≤ min (most x.u) (most x.v)) (edge_at-graph_of i k) (le-min by_u by_v)

-- nor than the values at its ends say
pub valued : (i : Network) (counts : List ℕ) → IsNetwork i → IsBMatching i counts → (k : ℕ) → k < length i.edges
    → slice_index counts k ≤ min (value_of i (instance_edge_at i k).u)
    (value_of i (instance_edge_at i k).v)
valued i counts network b k below =
    limited i counts (value_of i) network (λ v low high. (let same : degree (graph_of i) counts v ≡ value_of i v = b.degrees v low high in omega (arith, same))) k below

pub within_capacity : (capacity : Option ℕ) (most count : ℕ) → IfSome capacity (λ c. count ≤ c) → count ≤ most → count ≤ bounded capacity most
within_capacity None most count h below = below
within_capacity (Some c) most count h below = le-min h below

-- nothing used is a matching

pub nothing-used : (i : Network) (v : ℕ) → degree (graph_of i) (replicate {A = ℕ} (length i.edges) 0) v ≡ 0
nothing-used i v =
    let g = graph_of i in
    let zeros : List ℕ = replicate {A = ℕ} (length i.edges) 0 in
    let same : length g.edges ≡ length i.edges = edges-count i in
    sum_to-same (λ k. slice_index zeros k * ends_at (edge_at g k) v) (λ _. 0) (length g.edges)
    (λ k b. (let none : slice_index zeros k ≡ 0 = get_or-replicate {A = ℕ} (length i.edges) k 0 0 (omega arith) in
    let product : 0 * ends_at (edge_at g k) v ≡ 0 = omega arith in
    ap (λ (c : ℕ). c * ends_at (edge_at g k) v) none ∙ product)) ∙ sum_to-zero (length g.edges)

pub empty-matching : (i : Network) → IsMatching i (replicate {A = ℕ} (length i.edges) 0)
empty-matching i = record {
  one_each = length-replicate (length i.edges) 0;
  at_most_once = All-replicate (λ c. c ≤ 1) (length i.edges) 0 (omega arith);
  degrees = λ v low high. (let none = nothing-used i v in omega (arith, none));
}
