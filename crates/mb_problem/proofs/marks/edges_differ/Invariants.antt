use Rattle.graph_theory.proofs.Common.{take}
use Rattle.mb_problem.specs.Marks.{AreMarks}
use Rattle.mb_problem.proofs.MarkLemmas.{DifferBelow}
use Rattle.mb_problem.proofs.marks.edges_differ.Given as goal

abbrev pub invariant-loop-e : goal.invariant-loop-e
invariant-loop-e l = record {
  marks : AreMarks l.m l.marks.items (take l.e-index l.edges);
  differ : DifferBelow l.edges l.e-index;
}
