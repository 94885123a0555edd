use Rattle.mb_problem.proofs.Common.{take, AreMarks}
use Rattle.cert_check.proofs.parts.marks_of.Given as goal

abbrev pub invariant-loop-v : goal.invariant-loop-v
invariant-loop-v l = AreMarks l.n l.marks.items (take l.v-index l.members)
