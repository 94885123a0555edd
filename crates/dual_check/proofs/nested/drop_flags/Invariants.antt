use Rattle.graph_theory.proofs.Common.{◌≡◌, ◌+◌, ◌&&◌, ℕ, not, length, take, holds}
use Rattle.graph_parts.specs.Marks.{is_marked}
use Rattle.dual_check.proofs.nested.drop_flags.Given as goal

abbrev pub invariant-loop-number : goal.invariant-loop-number
invariant-loop-number l = record {
  size : length l.flags ≡ length l.initial.flags;
  exact : (j : ℕ) → is_marked l.flags j ≡ (is_marked l.initial.flags j && not (holds (take l.number-index l.references) (j + 1)));
}
