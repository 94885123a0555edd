use Rattle.graph_theory.proofs.Common.{◌≡◌, ℤ, Some, None, ap, ◌∙◌, rules, to_z, of_z, edge_at, cond, nat_lt, slice_index}
use Rattle.graph_theory.specs.declared.edge.Edge.{Edge}
use Rattle.std.proofs.Common.{w64}
use Rattle.mb_problem.specs.Network.{graph_of, plain}
use Rattle.mb_problem.specs.Heaviest.{used_weight}
use Rattle.mb_problem.proofs.EdgeLemmas.{edge-item}
use Rattle.mb_problem.proofs.HeaviestLemmas.{greatest-more}
use Rattle.mb_problem.proofs.measure.heaviest_of_counts.Goals as goal

pub loop-k-preserved : goal.loop-k-preserved
loop-k-preserved c =
    let i = c.args.instance.now in
    let g = graph_of i in
    let counts = c.args.counts.now in
    let k = c.loop-k.k in
    let e = c.edge-item.result in
    let here : plain e ≡ edge_at g k = edge-item i c.edge_list-edge-items.result.now k e c.edge_list-edge-items.ensures.list c.loop-k-test.true c.edge-item.is in
    let same : to_z w64 (of_z w64 e.w) ≡ (edge_at g k).w = (let cast : to_z w64 (of_z w64 e.w) ≡ e.w = search rules in cast ∙ ap (λ (t : Edge). t.w) here) in
    let weight : c.weight_if_used.result ≡ used_weight g counts k = c.weight_if_used.ensures ∙ ap (λ (w : ℤ). cond (nat_lt 0 (slice_index counts k)) (Some w) None) same in
    greatest-more (used_weight g counts) k c.loop-k.greatest c.weight_if_used.result c.greater_of-greatest.result c.loop-k.invariant weight c.greater_of-greatest.ensures
