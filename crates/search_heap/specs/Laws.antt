-- What holds of the moments of every queue.
use Rattle.std.specs.Prelude.{◌≡◌, ◌≢◌, ℕ, ℤ, length, Option, Some, None}
use Rattle.search_heap.specs.declared.item.Item.{Item}
use Rattle.search_heap.specs.Moments.{Moments, no_moments, moment_of, with_moment, IsItem}

-- of a new queue no item has a moment
abbrev pub NewHasNone : Type 0
NewHasNone = (edges nodes : ℕ) (item : Item) → moment_of (no_moments edges nodes) item ≡ None

-- an item that is given a moment has it, and one that it is taken from has none
abbrev pub HasWhatIsSet : Type 0
HasWhatIsSet = (q : Moments) (item : Item) (m : Option ℤ) → IsItem q item
    → moment_of (with_moment q item m) item ≡ m

-- the others have what they had
abbrev pub OthersStay : Type 0
OthersStay = (q : Moments) (item other : Item) (m : Option ℤ) → IsItem q item → other ≢ item
    → moment_of (with_moment q item m) other ≡ moment_of q other

-- the queue has places for the same items
abbrev pub PlacesStay : Type 0
PlacesStay = (q : Moments) (item : Item) (m : Option ℤ)
    → (length (with_moment q item m).edges ≡ length q.edges)
    × (length (with_moment q item m).blossoms ≡ length q.blossoms)

-- what has a moment has a place
abbrev pub OnlyItemsHave : Type 0
OnlyItemsHave = (q : Moments) (item : Item) (m : ℤ) → moment_of q item ≡ Some m → IsItem q item
