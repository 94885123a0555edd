use Rattle.graph_theory.proofs.Common.{◌≡◌, ℕ, ◌<◌, ◌||◌, not, length}
use Rattle.graph_parts.specs.Marks.{is_marked}
use Rattle.dual_check.proofs.narrow.left_out.Given as goal

abbrev pub invariant-loop-k : goal.invariant-loop-k
invariant-loop-k l = record { size : length l.left.items ≡ l.k; flags : (j : ℕ) → j < l.k → is_marked l.left.items j ≡ (is_marked l.narrow j || not (is_marked l.alone j)) }
