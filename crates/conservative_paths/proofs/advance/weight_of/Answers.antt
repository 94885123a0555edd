use Rattle.graph_theory.proofs.Common.{◌≡◌, ℕ, ◌+◌, ◌+ℤ◌, drop, get_or, ap, arith, ◌∙◌, ints, at_drop_more, get_or_read, edge_of, walk_weight}
use Rattle.std.proofs.lemmas.List.{drop_all}
use Rattle.conservative_paths.proofs.advance.weight_of.Goals as goal

pub loop-edge-preserved : goal.loop-edge-preserved
loop-edge-preserved c =
    let g = c.args.graph.now in
    let es = c.args.edges.now in
    let k = c.loop-edge.edge-index in
    let rest : walk_weight g (drop k es) ≡ (edge_of g (get_or es k 0)).w +ℤ walk_weight g (drop (k + 1) es) = at_drop_more (walk_weight g) es k 0 c.loop-edge-test.true in
    let here : c.edge-item.result ≡ get_or es k 0 = get_or_read es k c.edge-item.result c.loop-edge-test.true c.edge-item.is 0 in
    let weight : c.edge.result.2 ≡ (edge_of g (get_or es k 0)).w = c.edge.ensures.weight ∙ ap (λ (e : ℕ). (edge_of g e).w) here in
    record { sum = omega (arith, ints); low = omega (arith, ints); high = omega (arith, ints) }

pub returns : goal.returns
returns c =
    omega (arith, ints, ap (walk_weight c.args.graph.now) (drop_all c.loop-edge.edge-index c.args.edges.now c.loop-edge-test.false), c.loop-edge.invariant.sum)
