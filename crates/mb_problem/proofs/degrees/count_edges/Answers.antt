use Rattle.graph_theory.proofs.Common.{◌≡◌, ℕ, ◌+◌, ◌*◌, ◌<◌, length, slice_index, replicate, get_or-replicate, arith, ap, ap₂, ◌∙◌, sym, sum_to-step, edge_at}
use Rattle.graph_theory.proofs.Common.{ends_at, sum_to}
use Rattle.graph_theory.specs.declared.edge.Edge.{Edge}
use Rattle.mb_problem.specs.Network.{graph_of, plain}
use Rattle.mb_problem.proofs.EdgeLemmas.{edge-item, edges-count, two_ends}
use Rattle.mb_problem.proofs.degrees.count_edges.Goals as goal

pub loop-edge-preserved : goal.loop-edge-preserved
loop-edge-preserved c =
    let i = c.args.instance.now in
    let k = c.loop-edge.edge-index in
    let so_far = c.loop-edge.invariant in
    let whole = ap length c.edge_list-edge-items.ensures.list in
    let one : slice_index (replicate (length i.edges) 1) k ≡ 1 = get_or-replicate (length i.edges) k 1 0 (omega (arith, whole, c.loop-edge-test.true)) in
    let here : plain c.edge-item.result ≡ edge_at (graph_of i) k = edge-item i c.edge_list-edge-items.result.now k c.edge-item.result c.edge_list-edge-items.ensures.list
    c.loop-edge-test.true c.edge-item.is in
    record {
      size = c.add_edge.ensures.size ∙ so_far.size;
      each = λ v b. c.add_edge.ensures.each v (omega (arith, b, so_far.size, c.requires.room))
          ∙ sum_to-step (λ j. slice_index (replicate (length i.edges) 1) j * ends_at (edge_at (graph_of i) j) (v + 1)) k (slice_index c.loop-edge.degrees v)
          (1 * ends_at (plain c.edge-item.result) (v + 1)) (so_far.each v b) (ap₂ (λ (n : ℕ) (e : Edge). n * ends_at e (v + 1)) (sym one) here);
      value_limit = λ v b.
          let old : v < length c.loop-edge.degrees = omega (arith, b, c.add_edge.ensures.size) in
          omega (arith, c.add_edge.ensures.each v old, so_far.value_limit v old, two_ends (plain c.edge-item.result) (v + 1));
    }

pub add_edge-requires-clause-value_limit : goal.add_edge-requires-clause-value_limit
add_edge-requires-clause-value_limit c = λ v b.
    let few = c.edge_list-edge-items.ensures.network.few_edges in
    omega (arith, c.loop-edge.invariant.value_limit v b, few, c.loop-edge-test.true, ap length c.edge_list-edge-items.ensures.list)

pub returns-clause-counts : goal.returns-clause-counts
returns-clause-counts c = λ v below.
    let whole = edges-count c.args.instance.now in
    c.loop-edge.invariant.each v below
    ∙ ap (sum_to _) (omega (arith, c.loop-edge-test.false, c.loop-edge.auto.edge-index-end, ap length c.edge_list-edge-items.ensures.list, whole))
