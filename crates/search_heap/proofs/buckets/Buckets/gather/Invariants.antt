use Rattle.graph_theory.proofs.Common.{◌≡◌}
use Rattle.search_heap.specs.Rising.{moments_of}
use Rattle.search_heap.proofs.Filings.{IsGathering}
use Rattle.search_heap.proofs.buckets.Buckets.gather.Given as goal

abbrev pub invariant-loop : goal.invariant-loop
invariant-loop l = record {
  gathering : IsGathering l.self l.list l.least l.counter;
  moments : moments_of l.self ≡ moments_of l.fn.self;
  frame : l.self ≡ record l.fn.self { lists = l.self.lists };
}
