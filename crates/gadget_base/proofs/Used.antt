-- How often the first edges of an instance use a vertex: so many of its copies are taken before the next edge.
use Rattle.mb_problem.proofs.Common.{◌≡◌, ℕ, ◌+◌, ◌*◌, ◌<◌, ◌≤◌, pos, ◌*ℤ◌, true, refl, ap, sym, ◌∙◌, arith, List, length, slice_index, eq-eqb}
use Rattle.mb_problem.proofs.Common.{eqb-true, Edge, sum_to, int_sum_to, IsEdgeWithin, is_loop, ends_at, degree, weight, sum_to-same, int_sum_to-same, ends_at-some, touches-u, touches-v}
use Rattle.mb_problem.proofs.Common.{Network, IsNetwork, vertices, plain, graph_of, instance_edge_at, value_of, DegreesMeet, IsBMatching, is_loop_at, edge_at-graph_of, edges-count}
use Rattle.mb_problem.proofs.Common.{edge-ends, times-some, sum_to-grows}

-- how often edge number k + 1 is used at vertex t
abbrev pub use_at : Network → List ℕ → ℕ → ℕ → ℕ
use_at i counts t k = slice_index counts k * ends_at (plain (instance_edge_at i k)) t

-- how often the first k edges are used at vertex t
abbrev pub used : Network → List ℕ → ℕ → ℕ → ℕ
used i counts t k = sum_to (use_at i counts t) k

-- the degree is how often all edges are used there
pub degree-used : (i : Network) (counts : List ℕ) (t : ℕ) → degree (graph_of i) counts t ≡ used i counts t (length i.edges)
degree-used i counts t =
    ap (sum_to _) (edges-count i) ∙ sum_to-same _ _ (length i.edges) (λ k _. ap (λ (e : Edge). slice_index counts k * ends_at e t) (edge_at-graph_of i k))

-- the weight by the edges of the instance
pub weight-used : (i : Network) (counts : List ℕ) → weight (graph_of i) counts ≡ int_sum_to (λ k. pos (slice_index counts k) *ℤ (instance_edge_at i k).w) (length i.edges)
weight-used i counts =
    ap (int_sum_to _) (edges-count i) ∙ int_sum_to-same _ _ (length i.edges) (λ k _. ap (λ (e : Edge). pos (slice_index counts k) *ℤ e.w) (edge_at-graph_of i k))

-- an edge is used at each end as often as it is counted, and a loop twice as often

pub ends_at-loop : (e : Edge) → is_loop e ≡ true → ends_at e e.u ≡ 2
ends_at-loop e loop = rw (eq-eqb e.u e.u refl, eq-eqb e.v e.u (sym (eqb-true e.u e.v loop))) refl

pub use_at-loop : (i : Network) (counts : List ℕ) (k : ℕ) → is_loop_at i k ≡ true → use_at i counts (instance_edge_at i k).u k ≡ 2 * slice_index counts k
use_at-loop i counts k loop = rw (ends_at-loop (plain (instance_edge_at i k)) loop) (omega arith)

-- at least so often in any case

pub use_at-u_some : (i : Network) (counts : List ℕ) (k : ℕ) → slice_index counts k ≤ use_at i counts (instance_edge_at i k).u k
use_at-u_some i counts k = times-some (slice_index counts k) _ (ends_at-some (plain (instance_edge_at i k)) _ (touches-u (plain (instance_edge_at i k))))

pub use_at-v_some : (i : Network) (counts : List ℕ) (k : ℕ) → slice_index counts k ≤ use_at i counts (instance_edge_at i k).v k
use_at-v_some i counts k = times-some (slice_index counts k) _ (ends_at-some (plain (instance_edge_at i k)) _ (touches-v (plain (instance_edge_at i k))))

-- where no degree passes 1 no loop is used
pub loop-unused : (i : Network) (counts : List ℕ) (k : ℕ) → IsNetwork i → ((v : ℕ) → 1 ≤ v → v ≤ vertices i → degree (graph_of i) counts v ≤ 1) → k < length i.edges → is_loop_at i k ≡ true
    → slice_index counts k ≡ 0
loop-unused i counts k network small b loop =
    let e = instance_edge_at i k in
    let ends : IsEdgeWithin (vertices i) (plain e) = edge-ends i k network b in
    omega (arith, sum_to-grows (use_at i counts e.u) k (length i.edges) b, small e.u ends.u_low ends.u_high, degree-used i counts e.u, use_at-loop i counts k loop)

-- degrees that are the values don't pass them
pub values-most : (i : Network) (counts : List ℕ) → IsBMatching i counts → DegreesMeet i counts (λ v d. d ≤ value_of i v)
values-most i counts feasible v low high = let is : degree (graph_of i) counts v ≡ value_of i v = feasible.degrees v low high in omega arith

-- there are copies for the next edge, where no degree passes its value

module _ (i : Network) (counts : List ℕ) (k : ℕ) (network : IsNetwork i) (most : DegreesMeet i counts (λ v d. d ≤ value_of i v)) (b : k < length i.edges) where
  used-within : (t : ℕ) → 1 ≤ t → t ≤ vertices i → (used i counts t k + use_at i counts t k) ≤ value_of i t
  used-within t low high = omega (arith, sum_to-grows (use_at i counts t) k (length i.edges) b, most t low high, degree-used i counts t)

  pub used-within_u : (used i counts (instance_edge_at i k).u k + slice_index counts k) ≤ value_of i (instance_edge_at i k).u
  used-within_u = let ends = edge-ends i k network b in omega (arith, used-within (instance_edge_at i k).u ends.u_low ends.u_high, use_at-u_some i counts k)

  pub used-within_v : (used i counts (instance_edge_at i k).v k + slice_index counts k) ≤ value_of i (instance_edge_at i k).v
  used-within_v = let ends = edge-ends i k network b in omega (arith, used-within (instance_edge_at i k).v ends.v_low ends.v_high, use_at-v_some i counts k)

  -- a loop takes two copies each time
  pub used-within_loop : is_loop_at i k ≡ true → (used i counts (instance_edge_at i k).u k + 2 * slice_index counts k) ≤ value_of i (instance_edge_at i k).u
  used-within_loop loop =
      let ends = edge-ends i k network b in
      omega (arith, used-within (instance_edge_at i k).u ends.u_low ends.u_high, use_at-loop i counts k loop)
