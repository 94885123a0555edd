use Rattle.graph_theory.proofs.Common.{take}
use Rattle.mb_problem.specs.Marks.{AreMarks}
use Rattle.mb_problem.proofs.marks.marks_of.Given as goal

abbrev pub invariant-loop-e : goal.invariant-loop-e
invariant-loop-e l = AreMarks l.m l.marks.items (take l.e-index l.edges)
