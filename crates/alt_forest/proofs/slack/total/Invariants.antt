use Rattle.graph_theory.proofs.Common.{◌≡◌, ◌-◌, pos, neg_ℤ, ◌+ℤ◌, ◌*ℤ◌, ◌≤ℤ◌, take, true, AllByRecursion}
use Rattle.graph_theory.specs.declared.limits.TheConstants.{NUMBER_LIMIT}
use Rattle.blossom_arena.specs.Family.{is_node, dual_at}
use Rattle.alt_forest.specs.Chains.{total_of}
use Rattle.alt_forest.proofs.slack.total.Given as goal

abbrev pub invariant-loop : goal.invariant-loop
invariant-loop l = record {
  sum : l.sum +ℤ total_of (dual_at l.arena.duals) (take (l.nodes - l.counter) l.rest) ≡ total_of (dual_at l.arena.duals) (take l.nodes l.fn.chain);
  nodes : AllByRecursion (λ a. is_node l.arena.vertex_count l.arena.blossoms a ≡ true) l.rest;
  low : neg_ℤ (NUMBER_LIMIT *ℤ pos l.counter) ≤ℤ l.sum;
  high : l.sum ≤ℤ (NUMBER_LIMIT *ℤ pos l.counter);
}
