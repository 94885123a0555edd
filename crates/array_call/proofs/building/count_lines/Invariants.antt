use Rattle.certificates.proofs.Common.{◌≡◌, numbers}
use Rattle.document_lines.proofs.CountLines.{lines_to}
use Rattle.array_call.proofs.building.count_lines.Given as goal

abbrev pub invariant-loop-k : goal.invariant-loop-k
invariant-loop-k l = l.lines.items ≡ lines_to (numbers l.counts) l.k
