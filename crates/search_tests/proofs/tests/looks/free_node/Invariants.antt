use Rattle.alt_forest.proofs.Common.{ℕ, ◌+◌, ◌<◌, ◌≢◌, Out, IsExposed, label_at, state_of}
use Rattle.search_tests.proofs.tests.looks.free_node.Given as goal

abbrev pub invariant-loop-place : goal.invariant-loop-place
invariant-loop-place l = (k : ℕ) → k < l.place → IsExposed (state_of l.search) (k + 1) → label_at l.search.labels.items (k + 1) ≢ Out
