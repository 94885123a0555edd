use Rattle.dual_check.specs.Shared.{unshared_at}
use Rattle.dual_check.proofs.AddLemmas.{IsGiven}
use Rattle.dual_check.proofs.shares.add_unshared.Given as goal

abbrev pub invariant-loop-number : goal.invariant-loop-number
invariant-loop-number l = IsGiven l.numbers l.number-index (unshared_at l.graph l.shares l.fn.vertex) l.initial.totals l.totals
