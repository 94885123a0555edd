use Rattle.mb_problem.proofs.Common.{◌≡◌, ℕ, ◌+◌, ◌+ℤ◌, List, drop, get_or, ap, arith, ◌∙◌, ints, at_drop_more, get_or_read, edge_of, walk_weight, graph_of}
use Rattle.array_joins.proofs.weighing.weight_of.Goals as goal

pub loop-edge-preserved : goal.loop-edge-preserved
loop-edge-preserved c =
    let g = graph_of c.args.instance.now in
    let es : List ℕ = c.args.edges.now in
    let k = c.loop-edge.edge-index in
    let rest : walk_weight g (drop k es) ≡ (edge_of g (get_or es k 0)).w +ℤ walk_weight g (drop (k + 1) es) = at_drop_more (walk_weight g) es k 0 c.loop-edge-test.true in
    let here : c.edge-item.result ≡ get_or es k 0 = get_or_read es k c.edge-item.result c.loop-edge-test.true c.edge-item.is 0 in
    let weight : c.weight_at.result ≡ (edge_of g (get_or es k 0)).w = c.weight_at.ensures.weight ∙ ap (λ (e : ℕ). (edge_of g e).w) here in
    record {
      sum = omega (arith, ints, rest, weight, c.plus-total.ensures, c.loop-edge.invariant.sum);
      low = omega (arith, ints, c.plus-total.ensures, c.weight_at.ensures.low, c.loop-edge.invariant.low);
      high = omega (arith, ints, c.plus-total.ensures, c.weight_at.ensures.high, c.loop-edge.invariant.high);
    }
