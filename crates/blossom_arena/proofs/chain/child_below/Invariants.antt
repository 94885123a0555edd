use Rattle.graph_theory.proofs.Common.{◌≡◌, ◌-◌, ◌<◌, length}
use Rattle.blossom_arena.specs.Fields.{climb_to}
use Rattle.blossom_arena.proofs.chain.child_below.Given as goal

abbrev pub invariant-loop : goal.invariant-loop
invariant-loop l = record {
  place : l.child < length l.parents;
  same : climb_to (length l.parents - l.counter) l.parents l.stop l.child ≡ climb_to (length l.parents) l.parents l.stop l.node;
}
