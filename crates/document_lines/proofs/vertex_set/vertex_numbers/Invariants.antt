use Rattle.graph_theory.proofs.Common.{◌≡◌, pos, take, map}
use Rattle.document_lines.proofs.vertex_set.vertex_numbers.Given as goal

abbrev pub invariant-loop-vertex : goal.invariant-loop-vertex
invariant-loop-vertex l = l.numbers.items ≡ map pos (take l.vertex-index l.vertices)
