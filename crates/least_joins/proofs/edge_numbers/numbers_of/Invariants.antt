use Rattle.graph_theory.proofs.Common.{◌≡◌, ◌-◌, slice_index, map, take}
use Rattle.least_joins.proofs.edge_numbers.numbers_of.Given as goal

abbrev pub invariant-loop-edge : goal.invariant-loop-edge
invariant-loop-edge l = l.all.items ≡ map (λ e. slice_index l.numbers (e - 1)) (take l.edge-index l.edges)
