use Rattle.mb_problem.proofs.Common.{◌≡◌, ◌+◌, ◌*◌, ◌≤◌, ◌++◌, length, instance_edge_at}
use Rattle.gadget_base.specs.Blocks.{blocks}
use Rattle.gadget_parity.specs.Numbers.{copy_by}
use Rattle.gadget_parity.proofs.layers.add_copies.Given as goal

abbrev pub invariant-loop-edge : goal.invariant-loop-edge
invariant-loop-edge l = record {
  added : l.graph ≡ record l.initial.graph {
    edges = l.initial.graph.edges ++ blocks (λ k. copy_by l.first (instance_edge_at l.instance k) ++ copy_by l.second (instance_edge_at l.instance k)) l.edge-index;
  };
  size_limit : length l.graph.edges ≤ length l.initial.graph.edges + 2 * l.edge-index;
}
