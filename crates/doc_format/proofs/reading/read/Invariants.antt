use Rattle.graph_theory.proofs.Common.{◌≤◌, ◌+◌, length}
use Rattle.mb_base.specs.Rows.{rows}
use Rattle.doc_format.specs.Form.{parts_of}
use Rattle.doc_format.specs.Reading.{body_of}
use Rattle.doc_format.specs.Order.{IsLast}
use Rattle.doc_format.proofs.SoFar.{IsRead}
use Rattle.doc_format.proofs.reading.read.Given as goal

abbrev pub invariant-lines : goal.invariant-lines
invariant-lines l = record {
  is_read : IsRead l.line (rows l.bytes) l.number (rows l.rest) l.draft.document;
  last : IsLast l.draft.last (parts_of (body_of l.draft.document));
  size_limit : l.number + length l.rest ≤ l.line + length l.bytes;
}

abbrev pub decreases-lines : goal.decreases-lines
decreases-lines l = length l.rest
