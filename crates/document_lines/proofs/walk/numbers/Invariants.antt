use Rattle.graph_theory.proofs.Common.{◌≡◌, pos, take, map}
use Rattle.document_lines.proofs.walk.numbers.Given as goal

abbrev pub invariant-loop-edge : goal.invariant-loop-edge
invariant-loop-edge l = l.numbers.items ≡ map pos (take l.edge-index l.edges)
