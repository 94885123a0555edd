use Rattle.std.proofs.Common.{set}
use Rattle.search_heap.specs.Heaps.{key, IsRising}
use Rattle.search_heap.proofs.Sifts.{IsSifting}
use Rattle.search_heap.proofs.sift.rise.Given as goal

abbrev pub invariant-loop-parent : goal.invariant-loop-parent
invariant-loop-parent l = record {
  sifting : IsSifting l.highs l.fn.heap.items l.fn.places.items l.heap.items l.places.items l.count l.place l.entry;
  order : IsRising (key l.highs (set l.heap.items l.place l.entry)) l.place l.count;
}

abbrev pub decreases-loop-parent : goal.decreases-loop-parent
decreases-loop-parent l = l.place
