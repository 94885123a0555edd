use Rattle.std.proofs.Common.{set, ◌-◌}
use Rattle.search_heap.specs.Heaps.{key, IsSinking}
use Rattle.search_heap.proofs.Sifts.{IsSifting}
use Rattle.search_heap.proofs.sift.sink.Given as goal

abbrev pub invariant-loop-child : goal.invariant-loop-child
invariant-loop-child l = record {
  sifting : IsSifting l.highs l.fn.heap.items l.fn.places.items l.heap.items l.places.items l.count l.place l.entry;
  order : IsSinking (key l.highs (set l.heap.items l.place l.entry)) l.place l.count;
}

abbrev pub decreases-loop-child : goal.decreases-loop-child
decreases-loop-child l = l.count - l.place
