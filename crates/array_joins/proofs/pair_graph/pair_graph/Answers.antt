use Rattle.graph_theory.proofs.Common.{arith}
use Rattle.array_joins.proofs.PairedUp.{paired_perfect}
use Rattle.array_joins.proofs.pair_graph.pair_graph.Goals as goal

pub returns-clause-perfect : goal.returns-clause-perfect
returns-clause-perfect c = paired_perfect _ c.add_others.new.graph c.in_ok-add_others.ensures.paired (omega (arith, c.in_ok-add_others.ensures.vertices, c.in_ok-graph.ensures.vertices))
