use Rattle.graph_theory.proofs.Common.{length, sum_to, arith, ap, ◌∙◌}
use Rattle.mb_problem.proofs.layer_sizes.side_edges.Goals as goal

pub returns-clause-edges : goal.returns-clause-edges
returns-clause-edges c = c.loop-edge.invariant.sum ∙ ap (sum_to _) (omega (arith, c.loop-edge-test.false, c.loop-edge.auto.edge-index-end, ap length c.edge_list-edge-items.ensures.list))
