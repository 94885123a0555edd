use Rattle.graph_theory.proofs.Common.{◌≡◌, ◌<◌, length, AllByRecursion}
use Rattle.blossom_arena.specs.Placement.{all_added, placement_of}
use Rattle.blossom_arena.proofs.partition.Partition.add_each.Given as goal

abbrev pub invariant-loop-v : goal.invariant-loop-v
invariant-loop-v l = record {
  rest : all_added (placement_of l.self) l.v-iterator l.y ≡ all_added (placement_of l.fn.self) l.fn.vertices l.y;
  len : length l.self.sets ≡ length l.fn.self.sets;
  within : AllByRecursion (λ v. v < length l.fn.self.sets) l.v-iterator;
}
