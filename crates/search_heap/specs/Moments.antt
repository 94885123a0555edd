-- What an edge queue is to its callers: the moment of each item that has one.
use Rattle.std.specs.Prelude.{◌≡◌, ℕ, zero, suc, ◌-◌, ◌≤◌, ℤ, ◌≤ℤ◌, List, length, replicate, Option}
use Rattle.std.specs.Prelude.{Some, None, slice_index_or, slice_set}
use Rattle.search_heap.specs.declared.item.Item.{Item}
use Rattle.search_heap.specs.declared.item.Item.TheVariants.{Edge, Blossom}

-- for each edge and for each node of a blossom its moment or None, that of number 1 first
pub record Moments : Type 0 where
  pub edges : List (Option ℤ)
  pub blossoms : List (Option ℤ)

-- none of so many edges and nodes has a moment
abbrev pub no_moments : ℕ → ℕ → Moments
no_moments edges nodes = record { edges = replicate edges None; blossoms = replicate nodes None }

-- what a list has for a number; numbers count from 1
abbrev pub entry : List (Option ℤ) → ℕ → Option ℤ
entry xs zero = None
entry xs (suc k) = slice_index_or xs k None

abbrev pub moment_of : Moments → Item → Option ℤ
moment_of q (Edge e) = entry q.edges e
moment_of q (Blossom b) = entry q.blossoms b

-- the same but for this item
abbrev pub with_moment : Moments → Item → Option ℤ → Moments
with_moment q (Edge e) m = record { edges = slice_set q.edges (e - 1) m; blossoms = q.blossoms }
with_moment q (Blossom b) m = record { edges = q.edges; blossoms = slice_set q.blossoms (b - 1) m }

-- its number is one of so many edges or nodes
abbrev pub IsNumbered : ℕ → ℕ → Item → Type 0
IsNumbered edges nodes (Edge e) = (1 ≤ e) × (e ≤ edges)
IsNumbered edges nodes (Blossom b) = (1 ≤ b) × (b ≤ nodes)

-- the queue has a place for this item
abbrev pub IsItem : Moments → Item → Type 0
IsItem q item = IsNumbered (length q.edges) (length q.blossoms) item

-- an item that has the least of all moments, and its moment; None if no item has one
abbrev pub IsLeast : Moments → Option (Item × ℤ) → Type 0
IsLeast q None = (item : Item) → moment_of q item ≡ None
IsLeast q (Some r) = (moment_of q r.0 ≡ Some r.1)
    × ((item : Item) (m : ℤ) → moment_of q item ≡ Some m → r.1 ≤ℤ m)
