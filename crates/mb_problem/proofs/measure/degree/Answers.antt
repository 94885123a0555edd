use Rattle.graph_theory.proofs.Common.{◌≡◌, ◌*◌, ◌<◌, ◌^◌, slice_index, arith, ap, ap₂, ◌∙◌, edge_at, ends_at, length, sum_to, sum_to-step, mul-le}
use Rattle.graph_theory.specs.declared.edge.Edge.{Edge}
use Rattle.mb_problem.specs.Network.{graph_of, plain}
use Rattle.mb_problem.proofs.EdgeLemmas.{edge-item, edges-count}
use Rattle.mb_problem.proofs.measure.degree.Goals as goal

pub loop-k-preserved : goal.loop-k-preserved
loop-k-preserved c =
    let g = graph_of c.args.instance.now in
    let counts = c.args.counts.now in
    let k = c.loop-k.k in
    let v = c.args.v in
    let here : plain c.edge-item.result ≡ edge_at g k = edge-item c.args.instance.now c.edge_list-edge-items.result.now k c.edge-item.result c.edge_list-edge-items.ensures.list
    c.loop-k-test.true c.edge-item.is in
    let ends : c.ends_at.result ≡ ends_at (edge_at g k) v = c.ends_at.ensures.ends ∙ ap (λ (e : Edge). ends_at e v) here in
    let count : c.from.result < 2 ^ 32 = omega (arith, c.from.ensures, (c.type_inv.counts k).fits) in
    record {
      sum = sum_to-step (λ j. slice_index counts j * ends_at (edge_at g j) v) k c.loop-k.total (c.from.result * c.ends_at.result) c.loop-k.invariant.sum (ap₂ ◌*◌ c.from.ensures ends);
      value_limit = omega (arith, c.loop-k.invariant.value_limit, mul-le c.from.result c.ends_at.result (2 ^ 32) 2 (omega (arith, count)) c.ends_at.ensures.value_limit);
    }

pub returns-clause-degree : goal.returns-clause-degree
returns-clause-degree c =
    let g = graph_of c.args.instance.now in
    let whole = edges-count c.args.instance.now in
    let all : c.loop-k.k ≡ length g.edges = omega (arith, c.loop-k-test.false, c.loop-k.auto.k-end, ap length c.edge_list-edge-items.ensures.list, whole) in
    c.loop-k.invariant.sum ∙ ap (sum_to _) all
