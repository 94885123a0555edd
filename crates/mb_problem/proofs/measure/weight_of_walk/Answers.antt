use Rattle.graph_theory.proofs.Common.{◌≡◌, ℕ, ◌+◌, ◌-◌, ◌+ℤ◌, drop, get_or, ap, arith, sym, ◌∙◌, ints, at_drop_more, get_or_read, edge_of, walk_weight}
use Rattle.graph_theory.specs.declared.edge.Edge.{Edge}
use Rattle.std.proofs.lemmas.List.{drop_all}
use Rattle.mb_problem.specs.Network.{graph_of}
use Rattle.mb_problem.proofs.EdgeLemmas.{edge_at-graph_of}
use Rattle.mb_problem.proofs.measure.weight_of_walk.Goals as goal

pub loop-edge-preserved : goal.loop-edge-preserved
loop-edge-preserved c =
    let i = c.args.instance.now in
    let g = graph_of i in
    let ks = c.args.edges.now in
    let k = c.loop-edge.edge-index in
    let rest : walk_weight g (drop k ks) ≡ (edge_of g (get_or ks k 0)).w +ℤ walk_weight g (drop (k + 1) ks) = at_drop_more (walk_weight g) ks k 0 c.loop-edge-test.true in
    let here : c.edge-item.result ≡ get_or ks k 0 = get_or_read ks k c.edge-item.result c.loop-edge-test.true c.edge-item.is 0 in
    let weight : c.edge.result.2 ≡ (edge_of g (get_or ks k 0)).w = c.edge.ensures.weight ∙ ap (λ (t : Edge). t.w) (sym (edge_at-graph_of i (c.edge-item.result - 1)))
    ∙ ap (λ (e : ℕ). (edge_of g e).w) here in
    record { sum = omega (arith, ints, rest, weight, c.from-total.ensures, c.loop-edge.invariant.sum); low = omega (arith, ints); high = omega (arith, ints) }

pub returns : goal.returns
returns c =
    let none = ap (walk_weight (graph_of c.args.instance.now)) (drop_all c.loop-edge.edge-index c.args.edges.now c.loop-edge-test.false) in
    omega (arith, ints, c.loop-edge.invariant.sum, none)
