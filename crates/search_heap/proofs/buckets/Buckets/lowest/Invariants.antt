use Rattle.graph_theory.proofs.Common.{◌≢◌, ℕ, ◌<◌, ◌≤◌, Option, Some}
use Rattle.search_heap.specs.Rising.{IsHomed}
use Rattle.search_heap.proofs.buckets.Buckets.lowest.Given as goal

abbrev pub invariant-loop-list : goal.invariant-loop-list
invariant-loop-list l = (home : ℕ → Option ℕ) → IsHomed l.self home → (s k : ℕ) → 2 ≤ k → k < l.list → home s ≢ Some k
