use Rattle.graph_theory.proofs.Common.{length, sum_to, arith, ap, ◌∙◌}
use Rattle.mb_problem.proofs.size.copied_edges.Goals as goal

pub returns : goal.returns
returns c = c.loop-edge.invariant.sum ∙ ap (sum_to _) (omega (arith, c.loop-edge-test.false, c.loop-edge.auto.edge-index-end, ap length c.edge_list-edge-items.ensures.list))
