use Rattle.graph_theory.proofs.Common.{◌≡◌}
use Rattle.document_lines.proofs.DualLines.{lines_to}
use Rattle.array_call.proofs.building.dual_lines.Given as goal

abbrev pub invariant-loop-k : goal.invariant-loop-k
invariant-loop-k l = l.lines.items ≡ lines_to l.duals l.k
