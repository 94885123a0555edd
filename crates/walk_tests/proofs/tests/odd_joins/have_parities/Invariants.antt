use Rattle.mb_problem.proofs.Common.{◌≡◌, ℕ, ◌≤◌, ◌%◌, degree, graph_of, odd_between}
use Rattle.walk_tests.proofs.tests.odd_joins.have_parities.Given as goal

abbrev pub invariant-loop-k : goal.invariant-loop-k
invariant-loop-k l = (v : ℕ) → 1 ≤ v → v ≤ l.k → degree (graph_of l.instance) l.counts v % 2 ≡ odd_between l.s l.t v
