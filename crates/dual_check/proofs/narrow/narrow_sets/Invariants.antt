use Rattle.graph_theory.proofs.Common.{◌≡◌, ℕ, true, length}
use Rattle.graph_parts.specs.Marks.{is_marked}
use Rattle.dual_check.proofs.narrow.narrow_sets.Given as goal

abbrev pub invariant-loop-k : goal.invariant-loop-k
invariant-loop-k l = record { size : length l.narrow.items ≡ l.k; alone : (j : ℕ) → is_marked l.narrow.items j ≡ true → is_marked l.alone j ≡ true }
