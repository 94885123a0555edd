use Rattle.graph_theory.proofs.Common.{◌≡◌, length}
use Rattle.document_lines.specs.Gathering.{AreReady}
use Rattle.document_lines.proofs.LinesOf.{AreLinesOf}
use Rattle.document_lines.proofs.sets.put_lines.Given as goal

abbrev pub invariant-loop-done : goal.invariant-loop-done
invariant-loop-done l = record {
  well_formed : AreReady l.vertices l.engine.sets l.done l.tables;
  count : length l.lines.items ≡ l.done;
  lines : AreLinesOf l.engine.sets l.lines.items;
}
