use Rattle.graph_theory.proofs.Common.{ℕ, ◌<◌, pos, ◌≤ℤ◌, edge_at, slack, listed_sets}
use Rattle.dual_check.proofs.slacks.first_slack_fault.Given as goal

abbrev pub invariant-loop-k : goal.invariant-loop-k
invariant-loop-k l = (j : ℕ) → j < l.k → pos 0 ≤ℤ slack l.y (listed_sets l.graph.vertices l.sets) (edge_at l.graph j)
