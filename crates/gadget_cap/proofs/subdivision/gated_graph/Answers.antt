use Rattle.mb_problem.proofs.Common.{rules, ℕ, ◌≡◌, ◌<◌, ◌++◌, refl, ap, sym, ◌∙◌, subst, arith, List, length, slice_index, ap₂, Edge}
use Rattle.mb_problem.proofs.Common.{vertices, instance_edge_at, capped_size, IsWithinLimits, Multigraph, size_of, value_total, get_or_read, sum_to-more}
use Rattle.mb_problem.specs.declared.instance.InstanceEdge.{InstanceEdge}
use Rattle.mb_problem.specs.declared.kind.Kind.{Kind}
use Rattle.gadget_base.proofs.Common.{before_gates, blocks, gated, AreStarts, starts_of, edge_here, place_here}
use Rattle.gadget_base.proofs.Blocks.{blocks-more}
use Rattle.gadget_cap.specs.Capped.{capped_room, room_at}
use Rattle.gadget_cap.specs.Places.{gates_of}
use Rattle.graph_theory.specs.Limits.{Size}
use Rattle.gadget_cap.proofs.Sizes.{graph-is, size-is, room-is, gates-within, room-within}
use Rattle.gadget_cap.proofs.subdivision.gated_graph.Goals as goal

pub add_gates-requires : goal.add_gates-requires
add_gates-requires c =
    let i = c.args.instance.now in
    let unit = c.args.unit in
    let k = c.loop-edge.edge-index in
    let e : InstanceEdge = c.edge-item.result in
    let items = c.edge_list-edge-items in
    let here : e ≡ instance_edge_at i k = edge_here i items.result.now k e items.ensures.list c.loop-edge-test.true c.edge-item.is in
    let room : c.room_at-room.result ≡ capped_room unit i k = c.room_at-room.ensures.room ∙ ap (room_at unit i) here ∙ room-is unit i k in
    let below : k < length i.edges = place_here i items.result.now k items.ensures.list c.loop-edge-test.true in
    let before : c.loop-edge.before ≡ before_gates i (capped_room unit i) k = c.loop-edge.invariant.before in
    let same : gates_of i e c.loop-edge.before c.room_at-room.result ≡ gated i (capped_room unit i) k =
    ap (λ (x : InstanceEdge). gates_of i x c.loop-edge.before c.room_at-room.result) here
    ∙ ap₂ (gates_of i (instance_edge_at i k)) before room in
    let size = ap (λ (es : List Edge). length es) same in
    let limits : IsWithinLimits (capped_size i (capped_room unit i)) = subst IsWithinLimits (size-is unit i) c.requires.limits in
    record {
      starts = subst (AreStarts (λ k. slice_index i.values k) (vertices i)) (sym c.deref.ensures.value)
          (starts_of (λ k. slice_index i.values k) (vertices i) i.values c.value_list.result.now c.in_ok-starts.starts.items c.value_list.ensures.list refl
          (λ k _. refl) c.in_ok-starts.ensures);
      edge = search rules;
      copies = omega (arith, before);
      vertices = omega (arith, room, before, c.loop-edge.invariant.vertices, room-within i (capped_room unit i) k below);
      room = omega (arith, size, ap (λ (es : List Edge). length es) c.loop-edge.invariant.edges, limits.edges, gates-within i (capped_room unit i) k below);
    }

pub overflow_add-before : goal.overflow_add-before
overflow_add-before c =
    let i = c.args.instance.now in
    let unit = c.args.unit in
    let k = c.loop-edge.edge-index in
    let e : InstanceEdge = c.edge-item.result in
    let here : e ≡ instance_edge_at i k = edge_here i c.edge_list-edge-items.result.now k e c.edge_list-edge-items.ensures.list c.loop-edge-test.true c.edge-item.is in
    let room : c.room_at-room.result ≡ capped_room unit i k = c.room_at-room.ensures.room ∙ ap (room_at unit i) here ∙ room-is unit i k in
    let below : k < length i.edges = place_here i c.edge_list-edge-items.result.now k c.edge_list-edge-items.ensures.list c.loop-edge-test.true in
    let before : c.loop-edge.before ≡ before_gates i (capped_room unit i) k = c.loop-edge.invariant.before in
    let limits : IsWithinLimits (capped_size i (capped_room unit i)) = subst IsWithinLimits (size-is unit i) c.requires.limits in
    omega (arith, room, before, limits.vertices, room-within i (capped_room unit i) k below)

pub loop-edge-init : goal.loop-edge-init
loop-edge-init c =
    let i = c.args.instance.now in
    let n = c.vertices-copied.ensures.count in
    let sums = starts_of (λ k. slice_index i.values k) (vertices i) i.values c.value_list.result.now c.in_ok-starts.starts.items c.value_list.ensures.list refl (λ k _. refl)
    c.in_ok-starts.ensures in
    let first : c.index-before.result.now ≡ value_total i = get_or_read c.in_ok-starts.starts.items c.vertices-copied.result c.index-before.result.now (omega (arith, sums.one_more, n))
    c.index-before.ensures 0 ∙ ap (slice_index c.in_ok-starts.starts.items) n ∙ sums.each (vertices i) (omega arith) in
    let size = c.gadget_size-vertices.ensures.vertices ∙ ap (λ (k : Kind). (size_of k i).vertices) c.kind_of.ensures ∙ ap (λ (s : Size). s.vertices) (size-is c.args.unit i) in
    let all : c.new-graph.result.vertices ≡ c.gadget_size-vertices.result.0 = ap (λ (g : Multigraph). g.vertices) c.new-graph.ensures in
    record { before = omega (arith, first); vertices = omega (arith, all, size); edges = ap (λ (g : Multigraph). g.edges) c.new-graph.ensures }

pub loop-edge-preserved : goal.loop-edge-preserved
loop-edge-preserved c =
    let i = c.args.instance.now in
    let room = capped_room c.args.unit i in
    let k = c.loop-edge.edge-index in
    let e : InstanceEdge = c.edge-item.result in
    let items = c.edge_list-edge-items in
    let here : e ≡ instance_edge_at i k = edge_here i items.result.now k e items.ensures.list c.loop-edge-test.true c.edge-item.is in
    let size : c.room_at-room.result ≡ room k = c.room_at-room.ensures.room ∙ ap (room_at c.args.unit i) here ∙ room-is c.args.unit i k in
    let old = c.loop-edge.invariant in
    let same = ap (λ (x : InstanceEdge). gates_of i x c.loop-edge.before c.room_at-room.result) here ∙ ap₂ (gates_of i (instance_edge_at i k)) old.before size in
    let added = c.in_ok-add_gates.ensures.added in
    record {
      before = omega (arith, size, old.before, sum_to-more room k);
      vertices = ap (λ (g : Multigraph). g.vertices) added ∙ old.vertices;
      edges = ap (λ (g : Multigraph). g.edges) added ∙ ap₂ (λ (xs ys : List Edge). xs ++ ys) old.edges same ∙ sym (blocks-more (gated i room) k);
    }

pub returns : goal.returns
returns c =
    let i = c.args.instance.now in
    let list = ap (λ (es : List InstanceEdge). length es) c.edge_list-edge-items.ensures.list in
    let all : c.loop-edge.edge-index ≡ length i.edges = omega (arith, list, c.loop-edge-test.false, c.loop-edge.auto.edge-index-end) in
    let edges = c.loop-edge.invariant.edges ∙ ap (blocks (gated i (capped_room c.args.unit i))) all in
    ap₂ (λ (n : ℕ) (es : List Edge). record { vertices = n; edges = es }) c.loop-edge.invariant.vertices edges ∙ sym (graph-is c.args.unit i)
