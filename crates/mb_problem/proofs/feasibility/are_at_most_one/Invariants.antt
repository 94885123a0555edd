use Rattle.graph_theory.proofs.Common.{ℕ, ◌<◌, ◌≤◌, slice_index}
use Rattle.mb_problem.proofs.feasibility.are_at_most_one.Given as goal

abbrev pub invariant-loop-degree : goal.invariant-loop-degree
invariant-loop-degree l = (k : ℕ) → k < l.degree-index → slice_index l.degrees k ≤ 1
