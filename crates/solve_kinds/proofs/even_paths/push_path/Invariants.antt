use Rattle.graph_theory.proofs.Common.{◌≡◌, pos, map, take}
use Rattle.solve_kinds.proofs.even_paths.push_path.Given as goal

abbrev pub invariant-loop-edge : goal.invariant-loop-edge
invariant-loop-edge l = l.numbers.items ≡ map pos (take l.edge-index l.edges)
