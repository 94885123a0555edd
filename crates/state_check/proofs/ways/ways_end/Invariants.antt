use Rattle.alt_forest.proofs.Common.{ℕ, ◌<◌, ◌≤◌, length, IsOutermost, path_of, node_limit, state_of}
use Rattle.state_check.proofs.ways.ways_end.Given as goal

abbrev pub invariant-loop-number : goal.invariant-loop-number
invariant-loop-number l = (a : ℕ) → 1 ≤ a → a < l.number → IsOutermost (state_of l.search) a → length (path_of (state_of l.search) a) ≤ node_limit l.search.graph.vertices
