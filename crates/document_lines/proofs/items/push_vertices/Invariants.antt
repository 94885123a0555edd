use Rattle.certificates.proofs.Common.{◌≡◌, ◌++◌, pos, take, map, Vertex}
use Rattle.document_lines.proofs.items.push_vertices.Given as goal

abbrev pub invariant-loop-vertex : goal.invariant-loop-vertex
invariant-loop-vertex l = l.items.items ≡ l.fn.items.items ++ map (λ v. Vertex (pos v)) (take l.vertex-index l.vertices)
