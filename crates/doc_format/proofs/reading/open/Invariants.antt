use Rattle.graph_theory.proofs.Common.{◌≤◌, ◌+◌, length}
use Rattle.mb_base.specs.Rows.{rows}
use Rattle.doc_format.specs.Steps.{Skips}
use Rattle.doc_format.proofs.reading.open.Given as goal

abbrev pub invariant-lines : goal.invariant-lines
invariant-lines l = record {
  skips : Skips l.line (rows l.bytes) l.number (rows l.rest);
  size_limit : l.number + length l.rest ≤ l.line + length l.bytes;
}

abbrev pub decreases-lines : goal.decreases-lines
decreases-lines l = length l.rest
