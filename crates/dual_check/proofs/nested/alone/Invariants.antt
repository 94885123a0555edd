use Rattle.graph_theory.proofs.Common.{◌≡◌, ℕ, ◌<◌, length, true, ◌↔◌}
use Rattle.graph_parts.specs.Marks.{is_marked}
use Rattle.dual_check.proofs.LoneLemmas.{IsAloneTo}
use Rattle.dual_check.proofs.nested.alone.Given as goal

abbrev pub invariant-loop-k : goal.invariant-loop-k
invariant-loop-k l = record { size : length l.flags.items ≡ length l.sets; exact : (j : ℕ) → j < length l.sets → (is_marked l.flags.items j ≡ true) ↔ IsAloneTo l.sets l.k j }
