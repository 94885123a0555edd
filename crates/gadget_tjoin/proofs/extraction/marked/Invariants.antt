use Rattle.gadget_tjoin.proofs.Marks.{AreMarked}
use Rattle.gadget_tjoin.proofs.extraction.marked.Given as goal

abbrev pub invariant-loop-place : goal.invariant-loop-place
invariant-loop-place l = AreMarked l.marks l.place l.edges.items
