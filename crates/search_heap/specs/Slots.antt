-- The slots of the items: those of the edges, then those of the blossoms. No public clause cites
-- this module.
use Rattle.std.specs.Prelude.{◌≡◌, ℕ, ◌+◌, ◌-◌, ◌≤ℤ◌, ℤ, nat_lt, if◌then◌else◌, List, take, drop}
use Rattle.std.specs.Prelude.{Option, Some, None, slice_index_or}
use Rattle.search_heap.specs.declared.item.Item.{Item}
use Rattle.search_heap.specs.declared.item.Item.TheVariants.{Edge, Blossom}
use Rattle.search_heap.specs.Moments.{Moments}

abbrev pub number_of : Item → ℕ
number_of (Edge e) = e
number_of (Blossom b) = b

abbrev pub slot_of : ℕ → Item → ℕ
slot_of edges (Edge e) = e - 1
slot_of edges (Blossom b) = edges + (b - 1)

abbrev pub item_of : ℕ → ℕ → Item
item_of edges s = if nat_lt s edges then Edge (s + 1) else Blossom (s - edges + 1)

-- the moments by slot, where so many slots are those of edges
abbrev pub by_item : ℕ → List (Option ℤ) → Moments
by_item edges xs = record { edges = take edges xs; blossoms = drop edges xs }

-- a slot that has the least of all moments, and its moment; None if no slot has one
abbrev pub IsLeastSlot : List (Option ℤ) → Option (ℕ × ℤ) → Type 0
IsLeastSlot xs None = (s : ℕ) → slice_index_or xs s None ≡ None
IsLeastSlot xs (Some r) = (slice_index_or xs r.0 None ≡ Some r.1)
    × ((s : ℕ) (m : ℤ) → slice_index_or xs s None ≡ Some m → r.1 ≤ℤ m)
