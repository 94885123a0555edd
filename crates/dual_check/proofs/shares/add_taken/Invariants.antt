use Rattle.graph_theory.proofs.Common.{◌≡◌, ℕ, ◌+ℤ◌, length, IsEdgeNumber, edge_of, other_end}
use Rattle.dual_check.specs.Crossed.{total_at}
use Rattle.dual_check.proofs.TakenLemmas.{left_at, given_to}
use Rattle.dual_check.proofs.shares.add_taken.Given as goal

abbrev pub invariant-loop-k : goal.invariant-loop-k
invariant-loop-k l = record {
  size : length l.totals ≡ length l.initial.totals;
  exact : (e : ℕ) → IsEdgeNumber l.graph e → total_at l.totals e ≡ (total_at l.initial.totals e +ℤ given_to (edge_of l.graph e)
      (λ w. left_at l.sets l.taken w (other_end (edge_of l.graph e) w)) l.k);
}
