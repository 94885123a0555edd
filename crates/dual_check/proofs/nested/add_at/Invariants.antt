use Rattle.dual_check.specs.NestedTotals.{apart_at}
use Rattle.dual_check.proofs.AddLemmas.{IsGiven}
use Rattle.dual_check.proofs.nested.add_at.Given as goal

abbrev pub invariant-loop-number : goal.invariant-loop-number
invariant-loop-number l = IsGiven l.numbers l.number-index (apart_at l.graph l.sets l.forest l.stands l.fn.begin l.fn.q l.fn.vertex) l.initial.totals l.totals
