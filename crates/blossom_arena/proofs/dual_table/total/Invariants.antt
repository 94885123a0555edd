use Rattle.graph_theory.proofs.Common.{◌≡◌, ◌<◌, pos, neg_ℤ, ◌+ℤ◌, ◌-ℤ◌, ◌*ℤ◌, ◌≤ℤ◌, length, AllByRecursion}
use Rattle.graph_theory.specs.declared.limits.TheConstants.{GRAPH_VERTEX_LIMIT, NUMBER_LIMIT}
use Rattle.blossom_arena.specs.Family.{dual_at}
use Rattle.blossom_arena.specs.Slack.{total_of}
use Rattle.blossom_arena.proofs.dual_table.total.Given as goal

abbrev pub invariant-loop-node : goal.invariant-loop-node
invariant-loop-node l = record {
  sum : l.sum +ℤ total_of (dual_at l.duals.values) l.node-iterator ≡ total_of (dual_at l.duals.values) l.fn.chain;
  places : AllByRecursion (λ a. a < length l.duals.values) l.node-iterator;
  low : neg_ℤ (NUMBER_LIMIT *ℤ pos GRAPH_VERTEX_LIMIT) ≤ℤ (l.sum -ℤ (NUMBER_LIMIT *ℤ pos (length l.node-iterator)));
  high : (l.sum +ℤ (NUMBER_LIMIT *ℤ pos (length l.node-iterator))) ≤ℤ (NUMBER_LIMIT *ℤ pos GRAPH_VERTEX_LIMIT);
}
