use Rattle.graph_theory.proofs.Common.{ℕ, ◌<◌, slice_index_or, IsEdgeNumber}
use Rattle.gadget_tests.proofs.tests.back.are_numbers.Given as goal

abbrev pub invariant-loop-e : goal.invariant-loop-e
invariant-loop-e l = (k d : ℕ) → k < l.e-index → IsEdgeNumber l.graph (slice_index_or l.edges k d)
