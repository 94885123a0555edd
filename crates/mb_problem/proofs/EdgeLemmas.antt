-- The edges of an instance are those of its graph.
use Rattle.graph_theory.proofs.Common.{◌≡◌, ℕ, ◌<◌, ◌≤◌, ◌++◌, ◌∷◌, [], All, List, length, length_push, map, get_or, slice_index_or, ap, ◌∙◌, get_or_read}
use Rattle.graph_theory.proofs.Common.{sym, subst, arith, length-map, get_or-map as read-map, IsGraph, IsEdgeWithin, IsWeight, IsEdgeNumber, edge_at, edge_of, edge_of_within, ends_at}
use Rattle.graph_theory.proofs.Common.{Bool, true, false, cond, eqb, ◌+◌, All-push}
use Rattle.std.proofs.Math.ListN.{get_or-map}
use Rattle.graph_theory.specs.declared.edge.Edge.{Edge}
use Rattle.mb_problem.specs.declared.instance.InstanceEdge.{InstanceEdge}
use Rattle.mb_problem.specs.Network.{Network, IsNetwork, IsInstanceEdge, vertices, graph_of, plain, instance_edge_at, no_instance_edge}

pub edge_at-graph_of : (i : Network) (k : ℕ) → edge_at (graph_of i) k ≡ plain (instance_edge_at i k)
edge_at-graph_of i k = get_or-map plain i.edges k no_instance_edge

pub edges-count : (i : Network) → length (graph_of i).edges ≡ length i.edges
edges-count i = length-map i.edges plain

here : (i : Network) (k : ℕ) (d : Edge) → k < length i.edges → get_or (graph_of i).edges k d ≡ plain (instance_edge_at i k)
here i k d below = read-map plain i.edges k no_instance_edge d below

-- the edge that a pass over the list has come to
pub edge-item : (i : Network) (es : List InstanceEdge) (k : ℕ) (e : InstanceEdge) → es ≡ i.edges → k < length es → e ≡ get_or es k e → plain e ≡ edge_at (graph_of i) k
edge-item i es k e list below is = ap plain (get_or_read es k e below is no_instance_edge ∙ ap (λ (es : List InstanceEdge). slice_index_or es k no_instance_edge) list)
    ∙ sym (edge_at-graph_of i k)

-- an edge keeps the ranges of an instance

pub edge-ends : (i : Network) (k : ℕ) → IsNetwork i → k < length i.edges → IsEdgeWithin (vertices i) (plain (instance_edge_at i k))
edge-ends i k network b = (network.edges k no_instance_edge b).ends

pub edge-weight : (i : Network) (k : ℕ) → IsNetwork i → k < length i.edges → IsWeight (instance_edge_at i k).w
edge-weight i k network b = (network.edges k no_instance_edge b).weight

-- what holds of each edge of an instance without its capacity holds of each edge of its graph
all_plain : (P : Edge → Type 0) (i : Network) → ((k : ℕ) → k < length i.edges → P (plain (instance_edge_at i k))) → All P (graph_of i).edges
all_plain P i each = λ k d b. (let size : length (map plain i.edges) ≡ length i.edges = length-map i.edges plain in let below : k < length i.edges = omega arith in
    subst P (sym (here i k d below)) (each k below))

-- an instance keeps the ranges of a graph
pub network-graph : (i : Network) → IsNetwork i → IsGraph (graph_of i)
network-graph i ok =
    let size : length (map plain i.edges) ≡ length i.edges = length-map i.edges plain in
    let few : length i.edges ≤ 65536 = ok.few_edges in
    let few_vertices : vertices i ≤ 4096 = ok.few_vertices in
    record {
      few_vertices = omega arith;
      few_edges = omega arith;
      ends = all_plain (λ e. IsEdgeWithin (vertices i) e) i (λ k b. edge-ends i k ok b);
      weights = all_plain (λ e. IsWeight e.w) i (λ k b. edge-weight i k ok b);
    }

pub edge-within : (i : Network) (e : ℕ) → IsNetwork i → IsEdgeNumber (graph_of i) e → IsEdgeWithin (vertices i) (edge_of (graph_of i) e)
edge-within i e ok number = edge_of_within (graph_of i) e (network-graph i ok).ends number

pub keeps : (i : Network) (es : List InstanceEdge) (k : ℕ) (e : InstanceEdge) → IsNetwork i → es ≡ i.edges → k < length es → e ≡ get_or es k e → IsInstanceEdge (vertices i) e
keeps i es k e ok list below is =
    let here = get_or_read es k e below is no_instance_edge ∙ ap (λ (es : List InstanceEdge). slice_index_or es k no_instance_edge) list in
    subst (IsInstanceEdge (vertices i)) (sym here) (ok.edges k no_instance_edge (omega (arith, below, ap length list)))

two : (a b : Bool) → cond a 1 0 + cond b 1 0 ≤ 2
two true true = omega arith
two true false = omega arith
two false true = omega arith
two false false = omega arith

pub two_ends : (e : Edge) (v : ℕ) → ends_at e v ≤ 2
two_ends e v = two (eqb e.u v) (eqb e.v v)

-- an instance with one edge more at the end
pub network-push : (i : Network) (edges es : List InstanceEdge) (values lows highs : List ℕ) (e : InstanceEdge) →
    record { edges = edges; values = values; lows = lows; highs = highs } ≡ i
    → IsNetwork (record { edges = edges; values = values; lows = lows; highs = highs }) → length i.edges < 65536 → IsInstanceEdge (vertices i) e → es ≡ edges ++ e ∷ []
    → IsNetwork (record { edges = es; values = values; lows = lows; highs = highs })
network-push i edges es values lows highs e view ok room edge is = record {
  few_vertices = ok.few_vertices;
  few_edges = omega (arith, ap length is, length_push edges e, ap (λ (n : Network). length n.edges) view, room);
  edges = subst (All (IsInstanceEdge (length values))) (sym is)
      (All-push (IsInstanceEdge (length values)) edges e ok.edges (subst (λ (n : Network). IsInstanceEdge (vertices n) e) (sym view) edge));
  values = ok.values;
  low_each = ok.low_each;
  high_each = ok.high_each;
  ordered = ok.ordered;
  highs = ok.highs;
}
