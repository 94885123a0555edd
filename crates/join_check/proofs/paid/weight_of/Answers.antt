use Rattle.mb_problem.proofs.Common.{◌≡◌, ℕ, ◌+◌, ◌-◌, ◌+ℤ◌, drop, ap, arith, sym, ◌∙◌, ints, at_drop_more, get_or, get_or_read, edge_of, walk_weight, Edge, length, edges-count, edge-weight}
use Rattle.std.proofs.lemmas.List.{drop_all}
use Rattle.mb_problem.specs.Network.{graph_of}
use Rattle.mb_problem.proofs.EdgeLemmas.{edge_at-graph_of}
use Rattle.join_check.proofs.paid.weight_of.Goals as goal

pub loop-edge-preserved : goal.loop-edge-preserved
loop-edge-preserved c =
    let i = c.args.instance.now in
    let g = graph_of i in
    let ks = c.args.edges.now in
    let k = c.loop-edge.edge-index in
    let rest : walk_weight g (drop k ks) ≡ (edge_of g (get_or ks k 0)).w +ℤ walk_weight g (drop (k + 1) ks) = at_drop_more (walk_weight g) ks k 0 c.loop-edge-test.true in
    let here : c.edge-item.result ≡ get_or ks k 0 = get_or_read ks k c.edge-item.result c.loop-edge-test.true c.edge-item.is 0 in
    let weight : c.edge.result.2 ≡ (edge_of g (get_or ks k 0)).w = c.edge.ensures.weight ∙ ap (λ (t : Edge). t.w) (sym (edge_at-graph_of i (c.edge-item.result - 1)))
    ∙ ap (λ (e : ℕ). (edge_of g e).w) here in
    let number = c.requires k 0 c.loop-edge-test.true in
    let small = edge-weight i (c.edge-item.result - 1) c.edge.ensures.network (omega (arith, number.0, number.1, here, edges-count i)) in
    record {
      sum = omega (arith, ints, rest, weight, c.from-total.ensures, c.loop-edge.invariant.sum);
      low = omega (arith, ints, small.0, small.1, c.edge.ensures.weight, c.from-total.ensures, c.loop-edge.invariant.low);
      high = omega (arith, ints, small.0, small.1, c.edge.ensures.weight, c.from-total.ensures, c.loop-edge.invariant.high);
    }

pub returns : goal.returns
returns c =
    let none = ap (walk_weight (graph_of c.args.instance.now)) (drop_all c.loop-edge.edge-index c.args.edges.now c.loop-edge-test.false) in
    let all : c.loop-edge.edge-index ≡ length c.args.edges.now = omega (arith, c.loop-edge-test.false, c.loop-edge.auto.edge-index-end) in
    record {
      sum = omega (arith, ints, c.loop-edge.invariant.sum, none);
      low = omega (arith, ints, c.loop-edge.invariant.low, all);
      high = omega (arith, ints, c.loop-edge.invariant.high, all);
    }
