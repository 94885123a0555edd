use Rattle.graph_theory.proofs.Common.{◌≡◌, ℕ, ◌≤◌, count_by, edge_of, touches}
use Rattle.gadget_tests.proofs.tests.back.is_perfect.Given as goal

abbrev pub invariant-loop-k : goal.invariant-loop-k
invariant-loop-k l = (v : ℕ) → 1 ≤ v → v ≤ l.k → count_by (λ e. touches (edge_of l.graph e) v) l.edges ≡ 1
