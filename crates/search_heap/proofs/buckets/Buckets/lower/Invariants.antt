use Rattle.graph_theory.proofs.Common.{◌≡◌}
use Rattle.search_heap.specs.Rising.{IsLowering, moments_of}
use Rattle.search_heap.proofs.buckets.Buckets.lower.Given as goal

abbrev pub invariant-loop-slot : goal.invariant-loop-slot
invariant-loop-slot l = record {
  lowering : IsLowering l.self l.last l.slot;
  moments : moments_of l.self ≡ moments_of l.fn.self;
  frame : l.self ≡ record l.fn.self { lists = l.self.lists };
}
