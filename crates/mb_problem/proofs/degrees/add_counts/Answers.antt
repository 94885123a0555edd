use Rattle.graph_theory.proofs.Common.{◌≡◌, ◌+◌, ◌*◌, ◌^◌, length, slice_index, arith, ap, ◌∙◌, sym, subst, sum_to-step, edge_at, ends_at, IsEdgeWithin, mul-le}
use Rattle.graph_theory.proofs.Common.{sum_to}
use Rattle.graph_theory.specs.declared.edge.Edge.{Edge}
use Rattle.mb_problem.specs.Network.{graph_of, plain}
use Rattle.mb_problem.proofs.EdgeLemmas.{edge-item, edges-count, keeps, two_ends}
use Rattle.mb_problem.proofs.degrees.add_counts.Goals as goal

pub add_edge-requires-clause-ends : goal.add_edge-requires-clause-ends
add_edge-requires-clause-ends c = subst (λ n. IsEdgeWithin n (plain c.edge-item.result)) (sym c.loop-k.invariant.one_each)
    (keeps c.args.instance.now c.edge_list-edge-items.result.now c.loop-k.k c.edge-item.result c.edge_list-edge-items.ensures.network c.edge_list-edge-items.ensures.list
    c.loop-k-test.true
    c.edge-item.is).ends

pub add_edge-requires-clause-value_limit : goal.add_edge-requires-clause-value_limit
add_edge-requires-clause-value_limit c = λ v b.
    let few = c.edge_list-edge-items.ensures.network.few_edges in
    omega (arith, c.loop-k.invariant.value_limit v (omega (arith, b, c.loop-k.invariant.one_each)), few, c.loop-k-test.true, ap length c.edge_list-edge-items.ensures.list)

pub loop-k-preserved : goal.loop-k-preserved
loop-k-preserved c =
    let g = graph_of c.args.instance.now in
    let counts = c.args.counts.now in
    let k = c.loop-k.k in
    let so_far = c.loop-k.invariant in
    let here : plain c.edge-item.result ≡ edge_at g k = edge-item c.args.instance.now c.edge_list-edge-items.result.now k c.edge-item.result c.edge_list-edge-items.ensures.list
    c.loop-k-test.true c.edge-item.is in
    record {
      one_each = c.add_edge.ensures.size ∙ so_far.one_each;
      each = λ v b. c.add_edge.ensures.each v (omega (arith, b, so_far.one_each))
          ∙ sum_to-step (λ j. slice_index counts j * ends_at (edge_at g j) (v + 1)) k (slice_index c.loop-k.degrees v) (slice_index counts k * ends_at (plain c.edge-item.result) (v + 1))
          (so_far.each v b) (ap (λ (e : Edge). slice_index counts k * ends_at e (v + 1)) here);
      value_limit = λ v b.
          let more = mul-le (slice_index counts k) (ends_at (plain c.edge-item.result) (v + 1)) (2 ^ 32) 2 (omega (arith, (c.type_inv.counts k).fits))
          (two_ends (plain c.edge-item.result) (v + 1)) in
          omega (arith, c.add_edge.ensures.each v (omega (arith, b, so_far.one_each)), so_far.value_limit v b, more);
    }

pub returns : goal.returns
returns c =
    let whole = edges-count c.args.instance.now in
    let all : c.loop-k.k ≡ length (graph_of c.args.instance.now).edges = omega (arith, c.loop-k-test.false, c.loop-k.auto.k-end, ap length c.edge_list-edge-items.ensures.list, whole) in
    record { one_each = c.loop-k.invariant.one_each; each = λ v below. c.loop-k.invariant.each v below ∙ ap (sum_to _) all }
