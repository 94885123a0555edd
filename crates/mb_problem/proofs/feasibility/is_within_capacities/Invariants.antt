use Rattle.graph_theory.proofs.Common.{ℕ, ◌<◌, ◌≤◌, slice_index, IfSome}
use Rattle.mb_problem.specs.Network.{instance_edge_at}
use Rattle.mb_problem.proofs.feasibility.is_within_capacities.Given as goal

abbrev pub invariant-loop-k : goal.invariant-loop-k
invariant-loop-k l = (j : ℕ) → j < l.k → IfSome (instance_edge_at l.instance j).capacity (λ c. slice_index l.counts j ≤ c)
