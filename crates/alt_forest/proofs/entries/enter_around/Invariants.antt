use Rattle.graph_theory.proofs.Common.{◌≡◌, ℕ, ◌+◌, ◌<◌, ◌≤◌, false, get_or, IsEdgeNumber, edge_of, edges_around, touches}
use Rattle.search_heap.specs.declared.item.Item.TheVariants.{Edge}
use Rattle.search_heap.specs.Moments.{moment_of}
use Rattle.alt_forest.specs.Searches.{IsSound, state_of}
use Rattle.alt_forest.specs.Entries.{IsEntered, entry_count}
use Rattle.alt_forest.proofs.entries.enter_around.Given as goal

abbrev pub invariant-loop-place : goal.invariant-loop-place
invariant-loop-place g l = record {
  frame : l.search ≡ record l.fn.search { queue = l.search.queue };
  sound : IsSound l.search;
  entered : (i : ℕ) → i < l.place → IsEntered (state_of l.fn.search) l.fn.search.clock l.search.queue (get_or (edges_around l.fn.search.graph l.fn.v) i 0);
  others : (e : ℕ) → IsEdgeNumber l.fn.search.graph e → touches (edge_of l.fn.search.graph e) l.fn.v ≡ false
      → moment_of l.search.queue (Edge e) ≡ moment_of l.fn.search.queue (Edge e);
  blossoms : l.search.queue.blossoms ≡ l.fn.search.queue.blossoms;
  inspections : l.steps ≡ l.fn.steps + l.place;
  count : entry_count l.search.queue ≤ entry_count l.fn.search.queue + l.place;
}
