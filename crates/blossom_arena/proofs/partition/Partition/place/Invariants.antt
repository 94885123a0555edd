use Rattle.graph_theory.proofs.Common.{◌≡◌, ◌<◌, length, AllByRecursion}
use Rattle.blossom_arena.specs.Placement.{all_in, placed, placement_of}
use Rattle.blossom_arena.proofs.partition.Partition.place.Given as goal

abbrev pub invariant-loop-v : goal.invariant-loop-v
invariant-loop-v l = record {
  rest : all_in (placement_of l.self) l.v-iterator l.set l.y ≡ placed (placement_of l.fn.self) l.fn.vertices l.set l.node l.y;
  len : length l.self.sets ≡ length l.fn.self.sets;
  within : AllByRecursion (λ v. v < length l.fn.self.sets) l.v-iterator;
}
