use Rattle.graph_theory.proofs.Common.{ℕ, ◌+◌, ◌<◌, slice_index}
use Rattle.walk_tests.proofs.tests.odd_joins.ascend.Given as goal

abbrev pub invariant-loop-k : goal.invariant-loop-k
invariant-loop-k l = (j : ℕ) → j + 1 < l.k → slice_index l.edges j < slice_index l.edges (j + 1)
