use Rattle.graph_theory.proofs.Common.{◌≡◌, ◌+◌, ◌*◌, ◌≤◌, sum_to}
use Rattle.mb_problem.specs.Network.{Network}
use Rattle.mb_problem.specs.Size.{value_u, value_v, room_by}
use Rattle.mb_problem.proofs.copy_sizes.capped_size.Given as goal

abbrev pub invariant-loop-edge : goal.invariant-loop-edge
invariant-loop-edge l = let i : Network = record l.instance { values = l.values } in record {
  rooms : l.rooms ≡ sum_to (room_by l.capacities i) l.edge-index;
  few_rooms : l.rooms ≤ 4096 * l.edge-index;
  edges : l.edges ≡ sum_to (λ k. room_by l.capacities i k * (value_u i k + room_by l.capacities i k + value_v i k)) l.edge-index;
  few_edges : l.edges ≤ 4096 * 12288 * l.edge-index;
}
