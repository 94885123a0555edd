use Rattle.graph_theory.proofs.Common.{◌≡◌}
use Rattle.document_lines.proofs.CountLines.{lines_to}
use Rattle.document_lines.proofs.counts.used.Given as goal

abbrev pub invariant-loop-place : goal.invariant-loop-place
invariant-loop-place l = l.lines.items ≡ lines_to l.counts l.place
