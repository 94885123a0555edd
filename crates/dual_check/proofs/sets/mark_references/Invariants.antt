use Rattle.graph_theory.proofs.Common.{◌≡◌, ℕ, ◌||◌, take, holds}
use Rattle.graph_parts.specs.Marks.{is_marked}
use Rattle.dual_check.proofs.sets.mark_references.Given as goal

abbrev pub invariant-loop-reference : goal.invariant-loop-reference
invariant-loop-reference l = (r : ℕ) → is_marked l.marks r ≡ (is_marked l.initial.marks r || holds (take l.reference-index l.references) r)
