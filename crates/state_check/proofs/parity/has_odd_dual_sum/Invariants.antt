use Rattle.alt_forest.proofs.Common.{◌≡◌, true, AllByRecursion, is_node, dual_at, dual_sum, state_of}
use Rattle.state_check.proofs.Parities.{IsSummed}
use Rattle.state_check.proofs.parity.has_odd_dual_sum.Given as goal

abbrev pub invariant-loop-node : goal.invariant-loop-node
invariant-loop-node l = record {
  summed : IsSummed (dual_at l.search.arena.duals) (dual_sum (state_of l.search) l.fn.v) l.odd l.node-iterator;
  nodes : AllByRecursion (λ a. is_node l.search.arena.vertex_count l.search.arena.blossoms a ≡ true) l.node-iterator;
}
