use Rattle.graph_theory.proofs.Common.{◌≡◌, ◌+◌, ◌≤◌, ◌++◌, length, slice_index}
use Rattle.gadget_base.specs.Blocks.{blocks}
use Rattle.gadget_parity.specs.Numbers.{between_by}
use Rattle.gadget_parity.proofs.layers.join_copies.Given as goal

abbrev pub invariant-loop-k : goal.invariant-loop-k
invariant-loop-k l = record {
  added : l.graph ≡ record l.initial.graph {
    edges = l.initial.graph.edges ++ blocks (λ k. between_by (slice_index l.first k) (slice_index l.second k)) l.k;
  };
  size_limit : length l.graph.edges ≤ length l.initial.graph.edges + l.k;
}
