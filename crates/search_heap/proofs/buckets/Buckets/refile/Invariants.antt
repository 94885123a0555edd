use Rattle.graph_theory.proofs.Common.{◌≡◌}
use Rattle.search_heap.specs.Rising.{IsRefiling, moments_of}
use Rattle.search_heap.proofs.buckets.Buckets.refile.Given as goal

abbrev pub invariant-loop : goal.invariant-loop
invariant-loop l = record {
  refiling : IsRefiling l.self l.counter;
  moments : moments_of l.self ≡ moments_of l.fn.self;
  frame : l.self ≡ record l.fn.self { lists = l.self.lists };
}
