use Rattle.mb_problem.proofs.Common.{ℕ, ◌<◌, slice_index_or, IsEdgeNumber, graph_of}
use Rattle.walk_tests.proofs.tests.odd_joins.are_numbers.Given as goal

abbrev pub invariant-loop-e : goal.invariant-loop-e
invariant-loop-e l = (k d : ℕ) → k < l.e-index → IsEdgeNumber (graph_of l.instance) (slice_index_or l.edges k d)
