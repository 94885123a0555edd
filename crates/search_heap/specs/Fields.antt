-- How an indexed heap keeps its moments. No public clause cites this module.
use Rattle.std.specs.Prelude.{ℤ, List, length, map, Option, None}
use Rattle.std.specs.Vec.{vec_capacity}
use Rattle.search_heap.specs.declared.heap.IndexedHeap.TheInside.{Inside}
use Rattle.search_heap.specs.Heaps.{key, held, filled, AreTables, IsHeap, IsReserved}

-- by slot the moment of those whose place is below the count
abbrev pub entries_of : Inside → List (Option ℤ)
entries_of a = filled (length a.highs) None (map (held a.highs a.count a.heap.items) a.places.items)

pub record IsSound (a : Inside) : Type 0 where
  pub tables : AreTables a.heap.items a.places.items a.count
  pub order : IsHeap (key a.highs a.heap.items) a.count
  pub heap_room : IsReserved (length a.highs) (length a.heap.items) (vec_capacity a.heap)
  pub places_room : IsReserved (length a.highs) (length a.places.items) (vec_capacity a.places)
