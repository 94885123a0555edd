use Rattle.graph_theory.proofs.Common.{◌≡◌, ◌+◌, length}
use Rattle.dual_check.specs.Trees.{before}
use Rattle.dual_check.proofs.stretches.size_of.Given as goal

abbrev pub invariant-loop-reference : goal.invariant-loop-reference
invariant-loop-reference l = l.size ≡ length l.set.vertices + before l.sizes l.set.references l.reference-index
