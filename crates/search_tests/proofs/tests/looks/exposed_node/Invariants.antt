use Rattle.alt_forest.proofs.Common.{ℕ, ◌+◌, ◌<◌, IsExposed, state_of}
use Rattle.search_tests.proofs.tests.looks.exposed_node.Given as goal

abbrev pub invariant-loop-place : goal.invariant-loop-place
invariant-loop-place l = (k : ℕ) → k < l.place → IsExposed (state_of l.search) (k + 1) → ⊥
