use Rattle.graph_theory.proofs.Common.{◌≡◌, ℕ, ◌+◌, length, take, cond, holds}
use Rattle.dual_check.specs.Trees.{number_at}
use Rattle.dual_check.proofs.parents.note_parent.Given as goal

abbrev pub invariant-loop-reference : goal.invariant-loop-reference
invariant-loop-reference l = record {
  size : length l.parents.items ≡ length l.initial.parents.items;
  noted : (k : ℕ) → number_at l.parents.items k ≡ cond (holds (take l.reference-index l.references) (k + 1)) l.fn.set (number_at l.initial.parents.items k);
}
