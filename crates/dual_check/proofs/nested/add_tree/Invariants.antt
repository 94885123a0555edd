use Rattle.graph_theory.proofs.Common.{◌+◌, length}
use Rattle.dual_check.specs.NestedTotals.{AddsReached}
use Rattle.dual_check.specs.Links.{passed}
use Rattle.dual_check.proofs.nested.add_tree.Given as goal

abbrev pub invariant-loop-q : goal.invariant-loop-q
invariant-loop-q l = AddsReached l.graph l.sets l.alone l.forest (passed l.forest (length l.sets) (l.fn.root + 1)) l.q l.initial.totals l.totals
