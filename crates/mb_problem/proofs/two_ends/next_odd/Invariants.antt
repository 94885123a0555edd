use Rattle.graph_theory.proofs.Common.{◌≢◌, ℕ, ◌<◌, ◌≤◌, ◌%◌}
use Rattle.mb_problem.specs.Network.{value_of}
use Rattle.mb_problem.proofs.two_ends.next_odd.Given as goal

abbrev pub invariant-loop-v : goal.invariant-loop-v
invariant-loop-v l = (t : ℕ) → l.after < t → t ≤ l.v → value_of l.instance t % 2 ≢ 1
