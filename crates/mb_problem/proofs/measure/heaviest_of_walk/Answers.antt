use Rattle.graph_theory.proofs.Common.{◌≡◌, ℕ, ℤ, ◌-◌, Some, slice_index, get_or_read, ap, sym, ◌∙◌, rules, to_z, of_z, edge_of}
use Rattle.graph_theory.specs.declared.edge.Edge.{Edge}
use Rattle.std.proofs.Common.{w64}
use Rattle.mb_problem.specs.Network.{graph_of}
use Rattle.mb_problem.proofs.EdgeLemmas.{edge_at-graph_of}
use Rattle.mb_problem.proofs.HeaviestLemmas.{greatest-more}
use Rattle.mb_problem.proofs.measure.heaviest_of_walk.Goals as goal

pub loop-edge-preserved : goal.loop-edge-preserved
loop-edge-preserved c =
    let g = graph_of c.args.instance.now in
    let ks = c.args.edges.now in
    let k = c.loop-edge.edge-index in
    let z : ℤ = c.edge.result.2 in
    let here : c.edge-item.result ≡ slice_index ks k = get_or_read ks k c.edge-item.result c.loop-edge-test.true c.edge-item.is 0 in
    let weight : z ≡ (edge_of g (slice_index ks k)).w = c.edge.ensures.weight
    ∙ ap (λ (t : Edge). t.w) (sym (edge_at-graph_of c.args.instance.now (c.edge-item.result - 1))) ∙ ap (λ (e : ℕ). (edge_of g e).w) here in
    let same : to_z w64 (of_z w64 z) ≡ z = search rules in
    greatest-more (λ k. Some (edge_of g (slice_index ks k)).w) k c.loop-edge.greatest (Some (to_z w64 (of_z w64 z))) c.greater_of-greatest.result c.loop-edge.invariant
    (ap Some (same ∙ weight)) c.greater_of-greatest.ensures
