use Rattle.dual_check.proofs.AddLemmas.{IsGiven}
use Rattle.dual_check.proofs.shares.share.Given as goal

abbrev pub invariant-loop-vertex : goal.invariant-loop-vertex
invariant-loop-vertex l = IsGiven l.members l.vertex-index (λ _. l.fn.dual) l.initial.totals l.totals
