use Rattle.graph_theory.proofs.Common.{◌≡◌, ℤ, pos, ◌*ℤ◌, ◌≤◌, length, arith, rules, ap, ◌∙◌, sym, List, slice_index, slice_index_or, to_z, of_z, ints, get_or_read}
use Rattle.graph_theory.proofs.Common.{edge_at, int_sum_to, int_sum_to-more}
use Rattle.graph_theory.specs.declared.edge.Edge.{Edge}
use Rattle.std.proofs.Common.{w64}
use Rattle.mb_problem.specs.declared.instance.InstanceEdge.{InstanceEdge}
use Rattle.mb_problem.specs.Network.{graph_of, plain, instance_edge_at, no_instance_edge}
use Rattle.mb_problem.proofs.EdgeLemmas.{edge_at-graph_of, edges-count}
use Rattle.mb_problem.proofs.measure.weight_of_counts.Goals as goal

pub loop-k-preserved : goal.loop-k-preserved
loop-k-preserved c =
    let i = c.args.instance.now in
    let counts = c.args.counts.now in
    let k = c.loop-k.k in
    let e : InstanceEdge = c.edge-item.result in
    let here : e ≡ instance_edge_at i k = get_or_read _ k e c.loop-k-test.true c.edge-item.is no_instance_edge
    ∙ ap (λ (es : List InstanceEdge). slice_index_or es k no_instance_edge) c.edge_list-edge-items.ensures.list in
    let whole : length c.edge_list-edge-items.result.now ≡ length i.edges = ap length c.edge_list-edge-items.ensures.list in
    let few : length i.edges ≤ 65536 = c.edge_list-edge-items.ensures.network.few_edges in
    let step = int_sum_to-more (λ j. pos (slice_index counts j) *ℤ (edge_at (graph_of i) j).w) k in
    let same : to_z w64 (of_z w64 e.w) ≡ e.w = search rules in
    let there : plain e ≡ edge_at (graph_of i) k = ap plain here ∙ sym (edge_at-graph_of i k) in
    let value : c.used_weight-total.result ≡ pos (slice_index counts k) *ℤ (edge_at (graph_of i) k).w = c.used_weight-total.ensures.value
    ∙ ap (λ (z : ℤ). pos (slice_index counts k) *ℤ z) same ∙ ap (λ (t : Edge). pos (slice_index counts k) *ℤ t.w) there in
    record {
      sum = omega (arith, ints, value, step, c.loop-k.invariant.sum);
      low = omega (arith, ints, c.used_weight-total.ensures.low, c.loop-k.invariant.low);
      high = omega (arith, ints, c.used_weight-total.ensures.high, c.loop-k.invariant.high);
    }

pub returns : goal.returns
returns c =
    let i = c.args.instance.now in
    let all : c.loop-k.k ≡ length (graph_of i).edges = omega (arith, c.loop-k-test.false, c.loop-k.auto.k-end, ap length c.edge_list-edge-items.ensures.list, edges-count i) in
    c.loop-k.invariant.sum ∙ ap (int_sum_to _) all
