use Rattle.graph_theory.proofs.Common.{length}
use Rattle.dimacs_read.specs.Reading.{IsReadTo}
use Rattle.dimacs_read.proofs.reader.read_lines.Given as goal

abbrev pub invariant-lines : goal.invariant-lines
invariant-lines l = IsReadTo l.bounds l.bytes l.line l.rest l.header l.values.items l.edges.items l.negative

abbrev pub decreases-lines : goal.decreases-lines
decreases-lines l = length l.rest
