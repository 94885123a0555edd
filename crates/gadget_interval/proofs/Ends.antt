-- The edges of the graph of two halves lead from vertex to other vertex.
use Rattle.mb_problem.proofs.Common.{ℕ, ◌*◌, ◌<◌, ◌≤◌, ◌∙◌, sym, subst, refl, arith, All, length, slice_index_or, All-append, All-map, Edge, IsEdgeWithin, HasNoLoop}
use Rattle.mb_problem.proofs.Common.{Network, IsNetwork, IsInstanceEdge, vertices, at_most, spare_copies, value_total, room_of, eqb-shift as eqb_shift}
use Rattle.gadget_base.proofs.Common.{half_graph, halves_graph, moved, moved_edge, spare_pair, All-tabled, All-blocks, IsProper, proper}
use Rattle.gadget_cap.proofs.Ends.{capped-within, capped-no_loop}
use Rattle.gadget_interval.proofs.Sizes.{pairs, copies-grow}

-- an instance whose values are the greatest degrees keeps the ranges
pub upper-network : (i : Network) → IsNetwork i → IsNetwork (at_most i)
upper-network i net = record {
  few_vertices = omega (arith, net.few_vertices, net.high_each);
  few_edges = net.few_edges;
  edges = subst (λ (n : ℕ). All (IsInstanceEdge n) i.edges) (sym net.high_each) net.edges;
  values = net.highs;
  low_each = net.low_each ∙ sym net.high_each;
  high_each = refl;
  ordered = net.ordered;
  highs = net.highs;
}

pub half-within : (i : Network) → IsNetwork i → All (IsEdgeWithin (half_graph i).vertices) (half_graph i).edges
half-within i net = capped-within (at_most i) (room_of (at_most i)) (upper-network i net)

halves-proper : (i : Network) → IsNetwork i → All (IsProper (halves_graph i).vertices) (halves_graph i).edges
halves-proper i net =
    let half = half_graph i in
    let n = half.vertices in
    let P : Edge → Type 0 = IsProper (2 * n) in
    let plain = capped-no_loop (at_most i) (room_of (at_most i)) (upper-network i net) in
    let ends : (k : ℕ) (d : Edge) → k < length half.edges → (1 ≤ (slice_index_or half.edges k d).u) × ((slice_index_or half.edges k d).u ≤ n) × (1 ≤ (slice_index_or half.edges k d).v)
    × ((slice_index_or half.edges k d).v ≤ n) = λ k d b. let e = half-within i net k d b in (e.u_low, e.u_high, e.v_low, e.v_high) in
    All-append P half.edges _
    (λ k d b. let e = ends k d b in record { within = record { u_low = e.0; u_high = omega (arith, e.1); v_low = e.2; v_high = omega (arith, e.3) }; no_loop = plain k d b })
    (All-append P (moved n half.edges) _
    (All-map P (moved_edge n) half.edges
    (λ k d b.
    let e = ends k d b in
    record {
      within = record { u_low = omega (arith, e.0); u_high = omega (arith, e.1); v_low = omega (arith, e.2); v_high = omega (arith, e.3) };
      no_loop = eqb_shift _ _ n ∙ plain k d b;
    }))
    (All-blocks P (pairs i n) (vertices i)
    (λ k b.
    All-tabled P (spare_pair i n k) (spare_copies i k)
    (λ a small.
    let e = spare_pair i n k a in
    let inside : e.u ≤ value_total (at_most i) = let grow = copies-grow i k net b in omega (arith, grow.0, grow.1, small) in
    proper (2 * n) e.u e.v e.w (omega arith) (omega (arith, inside)) (omega arith) (omega (arith, inside)) (λ same. omega (arith, inside, same))))))

pub halves-within : (i : Network) → IsNetwork i → All (IsEdgeWithin (halves_graph i).vertices) (halves_graph i).edges
halves-within i net = λ k d b. (halves-proper i net k d b).within

pub halves-no_loop : (i : Network) → IsNetwork i → HasNoLoop (halves_graph i)
halves-no_loop i net = λ k d b. (halves-proper i net k d b).no_loop
