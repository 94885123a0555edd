use Rattle.mb_problem.proofs.EndLemmas.{AreEndsBelow}
use Rattle.mb_problem.proofs.walks.are_ends.Given as goal

abbrev pub invariant-loop-k : goal.invariant-loop-k
invariant-loop-k l = AreEndsBelow l.instance l.s l.t l.k
