use Rattle.graph_theory.proofs.Common.{◌≤◌, ◌+◌, length}
use Rattle.dimacs_read.specs.Reading.{ReadsOn}
use Rattle.dimacs_read.proofs.reader.keep_plain.Given as goal

abbrev pub invariant-plain : goal.invariant-plain
invariant-plain l = record {
  reads : ReadsOn l.fn.header l.fn.line l.fn.rest l.fn.edges.items l.fn.negative l.line l.rest l.edges.items l.negative;
  shorter : l.line + length l.rest ≤ l.fn.line + length l.fn.rest;
  short : length l.rest ≤ length l.fn.rest;
}

abbrev pub decreases-plain : goal.decreases-plain
decreases-plain l = length l.rest
