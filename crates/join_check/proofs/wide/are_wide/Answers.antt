use Rattle.mb_problem.proofs.Common.{◌≡◌, ℕ, subst, refl, below_more, Edge, slice_index, edge_at, graph_of}
use Rattle.mb_problem.specs.Network.{plain}
use Rattle.mb_problem.proofs.EdgeLemmas.{edge-item}
use Rattle.join_check.specs.Checks.{IsWideBy}
use Rattle.join_check.proofs.wide.are_wide.Goals as goal

pub loop-place-preserved : goal.loop-place-preserved
loop-place-preserved c =
    let i = c.args.instance.now in
    let k = c.loop-place.place in
    let here : plain c.edge-item.result
    ≡ edge_at (graph_of i) k = edge-item i c.edge_list-edge-items.result.now k c.edge-item.result c.edge_list-edge-items.ensures.list c.loop-place-test.true
    c.edge-item.is in
    below_more (λ (j : ℕ). IsWideBy c.args.tops.now c.args.befores.now c.args.nodes.now c.args.depths.now (edge_at (graph_of c.args.instance.now) j) (slice_index c.args.meets.now j))
    c.loop-place.place c.loop-place.invariant
    (subst (λ (e : Edge). IsWideBy c.args.tops.now c.args.befores.now c.args.nodes.now c.args.depths.now e (slice_index c.args.meets.now c.loop-place.place)) here
    (c.if-not-is_wide.ensures refl))
