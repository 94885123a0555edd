use Rattle.graph_theory.proofs.Common.{◌≡◌, ℕ, ◌&&◌, not, take, holds}
use Rattle.graph_parts.specs.Marks.{is_marked}
use Rattle.graph_parts.proofs.marks.unmark_all.Given as goal

abbrev pub invariant-loop-vertex : goal.invariant-loop-vertex
invariant-loop-vertex l = (w : ℕ) → is_marked l.marks w ≡ (is_marked l.initial.marks w && not (holds (take l.vertex-index l.members) w))
