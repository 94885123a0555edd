use Rattle.graph_theory.proofs.Common.{◌≡◌, ℕ, ◌<◌, None, get_or}
use Rattle.search_heap.specs.Rising.{IsFiled, moments_of}
use Rattle.search_heap.proofs.buckets.Buckets.clear.Given as goal

abbrev pub invariant-loop-slot : goal.invariant-loop-slot
invariant-loop-slot l = record {
  filed : IsFiled l.self;
  slots : l.self.slots ≡ l.fn.self.slots;
  none : (s : ℕ) → s < l.slot → get_or (moments_of l.self) s None ≡ None;
}
