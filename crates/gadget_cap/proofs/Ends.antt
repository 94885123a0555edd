-- The edges of the graph with gates lead from vertex to other vertex.
use Rattle.mb_problem.proofs.Common.{ℕ, ◌+◌, pos, Bool, true, false, inl, inr, arith, length, All, All-append, Edge, IsEdgeWithin, HasNoLoop, Network, IsNetwork, instance_edge_at}
use Rattle.mb_problem.proofs.Common.{value_u, value_v, room_of, unit_room_of, edge-ends}
use Rattle.gadget_base.proofs.Common.{rectangle, values_below, before_gates, gated, capped_graph, gadget_graph, All-blocks, copies-inside, IsProper, rectangle-proper}
use Rattle.gadget_cap.specs.Capped.{capped_kind}
use Rattle.gadget_cap.proofs.Sizes.{room-within}

capped-proper : (i : Network) (room : ℕ → ℕ) → IsNetwork i → All (IsProper (capped_graph i room).vertices) (capped_graph i room).edges
capped-proper i room net =
    let total = before_gates i room (length i.edges) in
    let P : Edge → Type 0 = IsProper total in
    All-blocks P (gated i room) (length i.edges)
    (λ k b.
    let before = before_gates i room k in
    let r = room k in
    let us = values_below i (instance_edge_at i k).u in
    let all = room-within i room k b in
    let is = edge-ends i k net b in
    let at_u = copies-inside i (instance_edge_at i k).u is.u_low is.u_high in
    let at_v = copies-inside i (instance_edge_at i k).v is.v_low is.v_high in
    All-append P (rectangle us (value_u i k) before r (instance_edge_at i k).w) _
    (rectangle-proper total us (value_u i k) before r (instance_edge_at i k).w (omega (arith, all, at_u)) (omega (arith, all)) (inl (omega (arith, at_u))))
    (All-append P (rectangle before r (before + r) r (pos 0)) _ (rectangle-proper total before r (before + r) r (pos 0) (omega (arith, all)) (omega (arith, all)) (inl (omega arith)))
    (rectangle-proper total (before + r) r (values_below i (instance_edge_at i k).v) (value_v i k) (pos 0) (omega (arith, all)) (omega (arith, all, at_v)) (inr (omega (arith, at_v))))))

pub capped-within : (i : Network) (room : ℕ → ℕ) → IsNetwork i → All (IsEdgeWithin (capped_graph i room).vertices) (capped_graph i room).edges
capped-within i room net = λ k d b. (capped-proper i room net k d b).within

pub capped-no_loop : (i : Network) (room : ℕ → ℕ) → IsNetwork i → HasNoLoop (capped_graph i room)
capped-no_loop i room net = λ k d b. (capped-proper i room net k d b).no_loop

pub gates-no_loop : (unit : Bool) (i : Network) → IsNetwork i → HasNoLoop (gadget_graph (capped_kind unit) i)
gates-no_loop true i net = capped-no_loop i (unit_room_of i) net
gates-no_loop false i net = capped-no_loop i (room_of i) net
