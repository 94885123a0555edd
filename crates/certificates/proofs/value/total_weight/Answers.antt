use Rattle.mb_problem.proofs.Common.{◌≡◌, ℕ, pos, ◌*ℤ◌, ◌≤◌, length, replicate, arith, rules, ap, ◌∙◌, sym, List, slice_index, slice_index_or, to_z, of_z, w64}
use Rattle.mb_problem.proofs.Common.{ints, get_or_read, get_or-replicate, Edge, edge_at, graph_of, plain, instance_edge_at, no_instance_edge, int_sum_to-more, edge_at-graph_of}
use Rattle.mb_problem.proofs.Common.{edges-count, int_sum_to}
use Rattle.mb_problem.specs.declared.instance.InstanceEdge.{InstanceEdge}
use Rattle.certificates.proofs.value.total_weight.Goals as goal

pub loop-edge-preserved : goal.loop-edge-preserved
loop-edge-preserved c =
    let i = c.args.instance.now in
    let m = length i.edges in
    let k = c.loop-edge.edge-index in
    let e : InstanceEdge = c.edge-item.result in
    let here : e ≡ instance_edge_at i k = get_or_read _ k e c.loop-edge-test.true c.edge-item.is no_instance_edge
    ∙ ap (λ (es : List InstanceEdge). slice_index_or es k no_instance_edge) c.edge_list-edge-items.ensures.list in
    let whole : length c.edge_list-edge-items.result.now ≡ m = ap length c.edge_list-edge-items.ensures.list in
    let few : m ≤ 65536 = c.edge_list-edge-items.ensures.network.few_edges in
    let step = int_sum_to-more (λ j. pos (slice_index (replicate m 1) j) *ℤ (edge_at (graph_of i) j).w) k in
    let once : slice_index (replicate m 1) k ≡ 1 = get_or-replicate m k 1 0 (omega arith) in
    let there : plain e ≡ edge_at (graph_of i) k = ap plain here ∙ sym (edge_at-graph_of i k) in
    let weight : e.w ≡ (edge_at (graph_of i) k).w = ap (λ (t : Edge). t.w) there in
    let term : pos (slice_index (replicate m 1) k) *ℤ (edge_at (graph_of i) k).w ≡ pos 1 *ℤ (edge_at (graph_of i) k).w = ap (λ (x : ℕ). pos x *ℤ (edge_at (graph_of i) k).w) once in
    let same : to_z w64 (of_z w64 e.w) ≡ e.w = search rules in
    record { sum = omega (arith, ints); low = omega (arith, ints); high = omega (arith, ints) }

pub returns : goal.returns
returns c =
    let i = c.args.instance.now in
    let size = ap length c.edge_list-edge-items.ensures.list in
    let few = c.edge_list-edge-items.ensures.network.few_edges in
    let end = c.loop-edge.auto.edge-index-end in
    let all : c.loop-edge.edge-index ≡ length (graph_of i).edges = omega (arith, size, edges-count i, c.loop-edge-test.false, end) in
    record {
      total = c.loop-edge.invariant.sum ∙ ap (int_sum_to (λ j. pos (slice_index (replicate (length i.edges) 1) j) *ℤ (edge_at (graph_of i) j).w)) all;
      low = omega (arith, ints, size, few, c.loop-edge.invariant.low, end);
      high = omega (arith, ints, size, few, c.loop-edge.invariant.high, end);
    }
