use Rattle.dual_check.specs.Crossed.{given_out}
use Rattle.dual_check.proofs.AddLemmas.{IsGiven}
use Rattle.dual_check.proofs.crossings.add_from.Given as goal

abbrev pub invariant-loop-number : goal.invariant-loop-number
invariant-loop-number l = IsGiven l.numbers l.number-index (given_out l.graph l.marks l.fn.vertex l.fn.dual) l.initial.totals l.totals
