use Rattle.graph_theory.proofs.Common.{ℕ, ◌≤◌, ◌≤ℤ◌, edge_of}
use Rattle.search_tests.proofs.tests.instances.is_least.Given as goal

abbrev pub invariant-loop-place : goal.invariant-loop-place
invariant-loop-place l = (e : ℕ) → 1 ≤ e → e ≤ l.place → l.start ≤ℤ (edge_of l.graph e).w
