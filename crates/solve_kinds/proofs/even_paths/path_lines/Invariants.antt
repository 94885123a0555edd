use Rattle.graph_theory.proofs.Common.{◌≡◌, map, take}
use Rattle.solve_kinds.specs.Greatest.{path_line}
use Rattle.solve_kinds.proofs.even_paths.path_lines.Given as goal

abbrev pub invariant-loop-vertex : goal.invariant-loop-vertex
invariant-loop-vertex l = l.lines ≡ map path_line (take l.vertex-index l.found.paths)
