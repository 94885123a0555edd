use Rattle.graph_theory.proofs.Common.{◌≡◌, ℕ, ◌+◌, ◌≤◌, false, drop, IsEdgeNumber, edge_of}
use Rattle.search_heap.specs.declared.item.Item.TheVariants.{Edge}
use Rattle.search_heap.specs.Moments.{moment_of}
use Rattle.alt_forest.specs.Searches.{IsSound, state_of}
use Rattle.alt_forest.specs.Entries.{IsQueuedBut, entry_count, ends_around, ends_looked, touches_any}
use Rattle.alt_forest.proofs.search.Search.enter_scanned.Given as goal

abbrev pub invariant-loop-place : goal.invariant-loop-place
invariant-loop-place g l = record {
  frame : l.self ≡ record l.fn.self { queue = l.self.queue };
  sound : IsSound l.self;
  event_times : IsQueuedBut l.self (drop l.place l.fn.self.scanned.items);
  inspections : l.steps + ends_around l.fn.graph (drop l.place l.fn.self.scanned.items) ≤ l.fn.steps + ends_around l.fn.graph l.fn.self.scanned.items;
  edge_ends : l.steps + ends_looked (state_of l.fn.self) (drop l.place l.fn.self.scanned.items) ≡ l.fn.steps + ends_looked (state_of l.fn.self) l.fn.self.scanned.items;
  others : (e : ℕ) → IsEdgeNumber l.fn.graph e → touches_any l.fn.self.scanned.items (edge_of l.fn.graph e) ≡ false
      → moment_of l.self.queue (Edge e) ≡ moment_of l.fn.self.queue (Edge e);
  blossoms : l.self.queue.blossoms ≡ l.fn.self.queue.blossoms;
  count : entry_count l.self.queue + l.fn.steps ≤ entry_count l.fn.self.queue + l.steps;
}
