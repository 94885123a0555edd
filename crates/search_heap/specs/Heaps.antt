-- Entries in heap order. No public clause cites this module.
use Rattle.std.specs.Prelude.{◌≡◌, ◌≢◌, ℕ, ◌+◌, ◌-◌, ◌*◌, ◌/◌, ◌<◌}
use Rattle.std.specs.Prelude.{◌≤◌, ◌^◌, ℤ, pos, ◌+ℤ◌, ◌*ℤ◌, ◌≤ℤ◌, nat_lt}
use Rattle.std.specs.Prelude.{if◌then◌else◌}
use Rattle.std.specs.Prelude.{[], ◌∷◌, List, length, replicate, slice_index, slice_index_or}
use Rattle.std.specs.Prelude.{Option, Some, None}
use Rattle.search_heap.specs.declared.entry.Entry.{Entry}

-- what stands past the end of a list of entries
abbrev pub blank : Entry
blank = record { low = 0; age = 0; slot = 0 }

-- what stands for the place of a slot that has none
abbrev pub absent : ℕ
absent = 2 ^ 32 - 1

-- the moment of these halves
unfoldable pub joined : ℤ → ℕ → ℤ
joined high low = (pos 18446744073709551616 *ℤ high) +ℤ pos low

-- the moment of an entry, of which it has the low half itself and a table by slot has the high one
abbrev pub moment_in : List ℤ → Entry → ℤ
moment_in highs e = joined (slice_index_or highs e.slot (pos 0)) e.low

-- of high halves that all are 0
abbrev pub IsZeroAt : List ℤ → Type 0
IsZeroAt highs = (s : ℕ) → slice_index_or highs s (pos 0) ≡ pos 0

-- a table in which this stands throughout until something is written
abbrev pub filled : {A : Type 0} → ℕ → A → List A → List A
filled size value [] = replicate size value
filled size value (x ∷ xs) = x ∷ xs

-- a table that is empty, with room for so many, or else has so many
pub record IsReserved (size long capacity : ℕ) : Type 0 where
  pub whole : 0 < long → long ≡ size
  pub room : long ≡ 0 → size ≤ capacity

-- but for one slot all have the high halves that they had
pub record IsRewritten (old new : List ℤ) (slot : ℕ) : Type 0 where
  pub size : length new ≡ length old
  pub others : (s : ℕ) → s ≢ slot → slice_index_or new s (pos 0) ≡ slice_index_or old s (pos 0)

-- the slot and the moment at a place of the heap
abbrev pub slot_at : List Entry → ℕ → ℕ
slot_at heap i = (slice_index_or heap i blank).slot

abbrev pub key : List ℤ → List Entry → ℕ → ℤ
key highs heap i = moment_in highs (slice_index_or heap i blank)

-- the moment at a place, if that is among the first so many
abbrev pub held : List ℤ → ℕ → List Entry → ℕ → Option ℤ
held highs count heap p = if nat_lt p count then Some (key highs heap p) else None

-- each of the first so many entries is that of the slot which has its place there; a slot with none
-- has a number past all places
pub record IsInverse (heap : List Entry) (places : List ℕ) (count : ℕ) : Type 0 where
  pub sizes : length places ≡ length heap
  pub slots : (i : ℕ) → i < count → slot_at heap i < length heap
  pub there : (i : ℕ) → i < count → slice_index places (slot_at heap i) ≡ i
  pub spots : (s : ℕ) → s < length heap → slice_index places s < length heap
      → slice_index places s < count
  pub back : (s : ℕ) → s < length heap → slice_index places s < count
      → slot_at heap (slice_index places s) ≡ s

-- the tables of a heap, which the first so many entries are: there is room for an entry of each
-- slot
pub record AreTables (heap : List Entry) (places : List ℕ) (count : ℕ) : Type 0 where
  pub inverse : IsInverse heap places count
  pub count_limit : count ≤ length heap
  pub size_limit : length heap < 2 ^ 32

-- the first so many entries but that at p are those of the slots that have a place; this slot is
-- none of them
pub record HasHole (heap : List Entry) (places : List ℕ) (count p slot : ℕ) : Type 0 where
  pub sizes : length places ≡ length heap
  pub count_limit : count ≤ length heap
  pub size_limit : length heap < 2 ^ 32
  pub place : p < count
  pub within : slot < length heap
  pub slots : (i : ℕ) → i < count → i ≢ p → slot_at heap i < length heap
  pub there : (i : ℕ) → i < count → i ≢ p → slice_index places (slot_at heap i) ≡ i
  pub apart : (i : ℕ) → i < count → i ≢ p → slot_at heap i ≢ slot
  pub spots : (s : ℕ) → s < length heap → s ≢ slot
      → slice_index places s < length heap → slice_index places s < count
  pub elsewhere : (s : ℕ) → s < length heap → s ≢ slot → slice_index places s ≢ p
  pub back : (s : ℕ) → s < length heap → s ≢ slot
      → slice_index places s < count → slot_at heap (slice_index places s) ≡ s

-- a slot has this place, which is among the first so many
pub record IsPlaceOf (places : List ℕ) (count slot p : ℕ) : Type 0 where
  pub known : slot < length places
  pub place : p ≡ slice_index places slot
  pub within : p < count

-- no child of the first n has a lesser key than its parent; the parent of place k is (k - 1) / 4
pub record IsHeap (f : ℕ → ℤ) (n : ℕ) : Type 0 where
  pub order : (p k : ℕ) → p * 4 + 1 ≤ k → k ≤ p * 4 + 4 → k < n → f p ≤ℤ f k

-- the same but for the key at j
pub record IsHeapBut (f : ℕ → ℤ) (j n : ℕ) : Type 0 where
  pub others : (p k : ℕ) → p * 4 + 1 ≤ k → k ≤ p * 4 + 4 → k < n → p ≢ j → k ≢ j → f p ≤ℤ f k
  pub around : (k : ℕ) → 0 < j → j * 4 + 1 ≤ k → k ≤ j * 4 + 4 → k < n → f ((j - 1) / 4) ≤ℤ f k

-- the same but that the key at j may be less than its parent's
pub record IsRising (f : ℕ → ℤ) (j n : ℕ) : Type 0 where
  pub others : (p k : ℕ) → p * 4 + 1 ≤ k → k ≤ p * 4 + 4 → k < n → k ≢ j → f p ≤ℤ f k
  pub around : (k : ℕ) → 0 < j → j * 4 + 1 ≤ k → k ≤ j * 4 + 4 → k < n → f ((j - 1) / 4) ≤ℤ f k

-- the same but that the key at j may be greater than its children's
pub record IsSinking (f : ℕ → ℤ) (j n : ℕ) : Type 0 where
  pub others : (p k : ℕ) → p * 4 + 1 ≤ k → k ≤ p * 4 + 4 → k < n → p ≢ j → f p ≤ℤ f k
  pub around : (k : ℕ) → 0 < j → j * 4 + 1 ≤ k → k ≤ j * 4 + 4 → k < n → f ((j - 1) / 4) ≤ℤ f k

-- the parent of a place has no lesser key than this moment
pub record IsLaterParent (f : ℕ → ℤ) (m : ℤ) (j p : ℕ) : Type 0 where
  pub below : 0 < j
  pub parent : p ≡ (j - 1) / 4
  pub later : m ≤ℤ f p

-- of two places, or of the first alone where the next is not below n, that of the lesser key
pub record IsEarlierOf (f : ℕ → ℤ) (n first next c : ℕ) : Type 0 where
  pub within : c < n
  pub one : c ≢ first → c ≡ next
  pub no_later : f c ≤ℤ f first
  pub least : next < n → f c ≤ℤ f next

-- of so many places side by side, those that are below n, the one of the least key
pub record IsLeastOf (f : ℕ → ℤ) (n left wide c : ℕ) : Type 0 where
  pub low : left ≤ c
  pub high : c < left + wide
  pub within : c < n
  pub least : (k : ℕ) → left ≤ k → k < left + wide → k < n → f c ≤ℤ f k

-- the child of a place with the least key, which isn't greater than this moment
pub record IsEarlierChild (f : ℕ → ℤ) (m : ℤ) (n j c : ℕ) : Type 0 where
  pub child : IsLeastOf f n (j * 4 + 1) 4 c
  pub earlier : f c ≤ℤ m

-- no child of a place has a lesser key than this moment
pub record NoEarlierChild (f : ℕ → ℤ) (m : ℤ) (n j : ℕ) : Type 0 where
  pub none : (k : ℕ) → j * 4 + 1 ≤ k → k ≤ j * 4 + 4 → k < n → m ≤ℤ f k

-- the tables are a heap in which this entry stands, and each other slot has the moment that it had
-- before
pub record IsMended (highs : List ℤ) (entry : Entry) (old_heap : List Entry) (old_places : List ℕ)
    (heap : List Entry) (places : List ℕ) (count : ℕ) : Type 0 where
  pub tables : AreTables heap places count
  pub order : IsHeap (key highs heap) count
  pub size : length heap ≡ length old_heap
  pub own : held highs count heap (slice_index places entry.slot) ≡ Some (moment_in highs entry)
  pub same : (s : ℕ) → s < length heap → s ≢ entry.slot
      → held highs count heap (slice_index places s)
      ≡ held highs count old_heap (slice_index old_places s)
