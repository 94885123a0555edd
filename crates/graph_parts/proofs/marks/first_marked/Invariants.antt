use Rattle.graph_theory.proofs.Common.{◌≡◌, ℕ, ◌<◌, false}
use Rattle.graph_parts.specs.Marks.{is_marked}
use Rattle.graph_parts.proofs.marks.first_marked.Given as goal

abbrev pub invariant-loop-number : goal.invariant-loop-number
invariant-loop-number l = (v : ℕ) → v < l.number → is_marked l.marks v ≡ false
