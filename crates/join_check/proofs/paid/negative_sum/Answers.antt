use Rattle.std.specs.Prelude.{FitsSigned}
use Rattle.std.proofs.lemmas.Int.{to_z-of_z}
use Rattle.mb_problem.proofs.Common.{to_z, of_z, w64, rules}
use Rattle.mb_problem.proofs.Common.{◌≡◌, ℤ, pos, cond, int_lt, ap, ◌∙◌, arith, ints, Edge, edge_at, graph_of}
use Rattle.mb_problem.specs.Network.{plain}
use Rattle.mb_problem.proofs.EdgeLemmas.{edge-item}
use Rattle.join_check.specs.Forests.{is_turned}
use Rattle.join_check.proofs.Steps.{sum-step}
use Rattle.join_check.proofs.paid.negative_sum.Goals as goal

pub loop-edge-preserved : goal.loop-edge-preserved
loop-edge-preserved c =
    let i = c.args.instance.now in
    let k = c.loop-edge.edge-index in
    let here : plain c.edge-item.result
    ≡ edge_at (graph_of i) k = edge-item i c.edge_list-edge-items.result.now k c.edge-item.result c.edge_list-edge-items.ensures.list c.loop-edge-test.true
    c.edge-item.is in
    let fits : FitsSigned w64 c.edge-item.result.w = search rules in
    let read : to_z w64 (of_z w64 c.edge-item.result.w) ≡ c.edge-item.result.w = to_z-of_z w64 c.edge-item.result.w fits in
    let term = c.negative_part-sum.ensures.part ∙ ap (λ (z : ℤ). cond (int_lt z (pos 0)) z (pos 0)) (read ∙ ap (λ (e : Edge). e.w) here) in
    record {
      sum = sum-step (λ j. cond (is_turned c.args.instance.now j) (edge_at (graph_of c.args.instance.now) j).w (pos 0)) c.loop-edge.edge-index _ c.negative_part-sum.result _
          c.loop-edge.invariant.sum term (omega (arith, ints));
      low = omega (arith, ints);
      high = omega (arith, ints);
    }
