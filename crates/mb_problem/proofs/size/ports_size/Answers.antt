use Rattle.graph_theory.proofs.Common.{get_or-replicate}
use Rattle.mb_problem.proofs.size.ports_size.Goals as goal

pub count_edges-requires-clause-start : goal.count_edges-requires-clause-start
count_edges-requires-clause-start c = λ k below. get_or-replicate 4096 k 0 0 below
