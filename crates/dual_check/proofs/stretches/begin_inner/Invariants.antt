use Rattle.graph_theory.proofs.Common.{◌≡◌, ◌+◌, length}
use Rattle.dual_check.specs.Trees.{before}
use Rattle.dual_check.proofs.StepLemmas.{ArePlaced}
use Rattle.dual_check.proofs.stretches.begin_inner.Given as goal

abbrev pub invariant-loop-reference : goal.invariant-loop-reference
invariant-loop-reference l = record {
  at : l.at ≡ (l.begin + length l.set.vertices) + before l.sizes l.set.references l.reference-index;
  placed : ArePlaced l.set.references l.sizes (l.begin + length l.set.vertices) l.reference-index l.initial.begins.items l.begins.items;
}
