use Rattle.graph_theory.proofs.Common.{◌≡◌, ℕ, ◌<◌, slice_index}
use Rattle.mb_problem.proofs.feasibility.are_values.Given as goal

abbrev pub invariant-loop-k : goal.invariant-loop-k
invariant-loop-k l = (j : ℕ) → j < l.k → slice_index l.degrees j ≡ slice_index l.values j
