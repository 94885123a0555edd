-- The entry at a place of the heap, or what stands past its end.
use Rattle.std.specs.Prelude.{ℕ, List, slice_index_or}
use Rattle.search_heap.specs.declared.entry.Entry.{Entry}
use Rattle.search_heap.specs.Heaps.{blank}

abbrev pub entry_at : List Entry → ℕ → Entry
entry_at heap i = slice_index_or heap i blank
