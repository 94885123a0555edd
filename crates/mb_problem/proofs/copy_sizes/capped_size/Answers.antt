use Rattle.graph_theory.proofs.Common.{◌≡◌, ℕ, ◌+◌, ◌*◌, ◌≤◌, arith, ap, ap₂, ◌∙◌, List, length, sum_to, slice_index_or, min, get_or_read, sum_to-step}
use Rattle.mb_problem.specs.declared.instance.InstanceEdge.{InstanceEdge}
use Rattle.mb_problem.specs.Network.{Network, instance_edge_at, no_instance_edge, value_of}
use Rattle.mb_problem.specs.Size.{value_u, value_v, bounded, room_by, limit_by}
use Rattle.mb_problem.proofs.copy_sizes.capped_size.Goals as goal

pub loop-edge-preserved : goal.loop-edge-preserved
loop-edge-preserved c =
    let i : Network = record c.args.instance.now { values = c.args.values.now } in
    let capacities = c.args.capacities in
    let k = c.loop-edge.edge-index in
    let e : InstanceEdge = c.edge-item.result in
    let here : e ≡ instance_edge_at i k = get_or_read _ k e c.loop-edge-test.true c.edge-item.is no_instance_edge
    ∙ ap (λ (es : List InstanceEdge). slice_index_or es k no_instance_edge) c.edge_list-edge-items.ensures.list in
    let room : c.edge_gadget-room.result.0 ≡ room_by capacities i k = c.edge_gadget-room.ensures.room ∙ ap (λ (t : InstanceEdge). bounded (limit_by capacities t)
    (min (value_of i t.u) (value_of i t.v))) here in
    let links : c.edge_gadget-room.result.1 ≡ room_by capacities i k * (value_u i k + room_by capacities i k + value_v i k) = c.edge_gadget-room.ensures.edges
    ∙ ap (λ (r : ℕ). r * (value_of i e.u + r + value_of i e.v)) room ∙ ap (λ (t : InstanceEdge). room_by capacities i k * (value_of i t.u + room_by capacities i k + value_of i t.v)) here
    in
    let few_rooms : c.edge_gadget-room.result.0 ≤ 4096 = c.edge_gadget-room.ensures.few_rooms in
    let few_links : c.edge_gadget-room.result.1 ≤ 4096 * 12288 = c.edge_gadget-room.ensures.few_edges in
    record {
      rooms = sum_to-step (room_by capacities i) k c.loop-edge.rooms c.edge_gadget-room.result.0 c.loop-edge.invariant.rooms room;
      few_rooms = omega arith;
      edges = sum_to-step (λ j. room_by capacities i j * (value_u i j + room_by capacities i j + value_v i j)) k c.loop-edge.edges c.edge_gadget-room.result.1 c.loop-edge.invariant.edges
          links;
      few_edges = omega arith;
    }

pub returns-clause-vertices : goal.returns-clause-vertices
returns-clause-vertices c =
    let i : Network = record c.args.instance.now { values = c.args.values.now } in
    let all : c.loop-edge.edge-index ≡ length i.edges = omega (arith, c.loop-edge-test.false, c.loop-edge.auto.edge-index-end, ap length c.edge_list-edge-items.ensures.list) in
    let rooms : c.loop-edge.rooms ≡ sum_to (room_by c.args.capacities i) (length i.edges) = c.loop-edge.invariant.rooms ∙ ap (sum_to (room_by c.args.capacities i)) all in
    ap₂ (λ (a b : ℕ). a + 2 * b) c.value_total.ensures.total rooms

pub returns-clause-edges : goal.returns-clause-edges
returns-clause-edges c =
    let i : Network = record c.args.instance.now { values = c.args.values.now } in
    let all : c.loop-edge.edge-index ≡ length i.edges = omega (arith, c.loop-edge-test.false, c.loop-edge.auto.edge-index-end, ap length c.edge_list-edge-items.ensures.list) in
    c.loop-edge.invariant.edges ∙ ap (sum_to _) all
