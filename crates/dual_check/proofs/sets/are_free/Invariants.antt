use Rattle.graph_theory.proofs.Common.{◌≡◌, ℕ, true, false, take, holds}
use Rattle.graph_parts.specs.Marks.{is_marked}
use Rattle.dual_check.proofs.sets.are_free.Given as goal

abbrev pub invariant-loop-reference : goal.invariant-loop-reference
invariant-loop-reference l = (r : ℕ) → holds (take l.reference-index l.references) r ≡ true → is_marked l.marks r ≡ false
