use Rattle.graph_theory.proofs.Common.{◌≡◌}
use Rattle.document_lines.proofs.DualLines.{lines_to}
use Rattle.document_lines.proofs.duals.dual_lines.Given as goal

abbrev pub invariant-loop-place : goal.invariant-loop-place
invariant-loop-place l = l.lines.items ≡ lines_to l.engine.duals l.place
