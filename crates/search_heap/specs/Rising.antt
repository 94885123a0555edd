-- How a queue for moments that only rise keeps them in buckets. No public clause cites this module.
use Rattle.std.specs.Prelude.{◌≡◌, ◌≢◌, ◌⊎◌, ℕ, ◌+◌, ◌-◌, ◌<◌, ◌≤◌, ℤ, pos, ◌+ℤ◌, ◌≤ℤ◌, ◌==◌, true}
use Rattle.std.specs.Prelude.{if◌then◌else◌, List, length, map, slice_index_or, Option, Some, None}
use Rattle.std.specs.Prelude.{is_some, vec_len}
use Rattle.std.specs.List.{range_with_len}
use Rattle.graph_theory.specs.Sums.{sum_to}
use Rattle.circular_lists.specs.Linked.{AreOwned, HasLinks, link_at}
use Rattle.search_heap.specs.declared.buckets.Buckets.{Buckets}

-- where a bucket ends
abbrev pub end_at : List ℤ → ℕ → ℤ
end_at ends k = slice_index_or ends k (pos 0)

-- the ends of 65 buckets, which rise up to the greatest number that there is
pub record AreEnds (ends : List ℤ) : Type 0 where
  pub size : length ends ≡ 65
  pub rising : (j k : ℕ) → j ≤ k → k < 65 → end_at ends j ≤ℤ end_at ends k
  pub top : end_at ends 64 ≡ pos 9223372036854775807

-- a moment that bucket k is for: the end itself in bucket 0, and in each other one what is above
-- the end of the one before
pub record IsInBucket (ends : List ℤ) (k : ℕ) (m : ℤ) : Type 0 where
  pub within : k < 65
  pub least : end_at ends 0 ≤ℤ m
  pub low : 0 < k → (end_at ends (k - 1) +ℤ pos 1) ≤ℤ m
  pub high : m ≤ℤ end_at ends k

-- the ends begin anew at m, and from the end of bucket j on they are what they were
pub record IsSpread (old new : List ℤ) (m : ℤ) (j : ℕ) : Type 0 where
  pub ends : AreEnds new
  pub first : end_at new 0 ≡ m
  pub frame : (k : ℕ) → j ≤ k → end_at new k ≡ end_at old k

-- what is kept for a slot as its moment, whether it has one or not
abbrev pub kept_moment : Buckets → ℕ → ℤ
kept_moment b s = slice_index_or b.moments.items s (pos 0)

-- the moment of a slot: one that is alone has none
abbrev pub moment_at : Buckets → ℕ → Option ℤ
moment_at b s = if link_at b.lists.next.items s == s then None else Some (kept_moment b s)

-- the moments by slot
abbrev pub moments_of : Buckets → List (Option ℤ)
moments_of b = map (moment_at b) (range_with_len 0 b.slots)

-- each slot that has a list is on it
pub record IsHomed (b : Buckets) (home : ℕ → Option ℕ) : Type 0 where
  pub moments : vec_len b.moments ≡ b.slots
  pub early : vec_len b.early ≡ b.slots
  pub links : HasLinks b.lists (b.slots + 67)
  pub within : (s l : ℕ) → home s ≡ Some l → s < b.slots
  pub owned : AreOwned b.slots home (link_at b.lists.next.items) (link_at b.lists.previous.items)

-- each slot is on a list of the bucket that is for its moment; lists 0 and 1 are those of bucket 0,
-- and list k + 1 is that of bucket k
pub record IsFiled (b : Buckets) : Type 0 where
  pub home : ℕ → Option ℕ
  pub homed : IsHomed b home
  pub ends : AreEnds b.ends.items
  pub fits : (s l : ℕ) → home s ≡ Some l → IsInBucket b.ends.items (l - 1) (kept_moment b s)

-- a slot of the first bucket
pub record IsFound (b : Buckets) (s : ℕ) : Type 0 where
  pub within : s < b.slots
  pub moment : moment_at b s ≡ Some (end_at b.ends.items 0)

-- the first list past those of the first bucket on which there is a slot, and one that is on it
pub record IsLowest (slots : ℕ) (home : ℕ → Option ℕ) (r : ℕ × ℕ) : Type 0 where
  pub low : 2 ≤ r.0
  pub high : r.0 < 66
  pub within : r.1 < slots
  pub there : home r.1 ≡ Some r.0
  pub lowest : (s l : ℕ) → home s ≡ Some l → 2 ≤ l → r.0 ≤ l

-- 1 where this is the list
abbrev pub one_on : Option ℕ → ℕ → ℕ
one_on None list = 0
one_on (Some l) list = if l == list then 1 else 0

-- how many of the first n slots are on a list
abbrev pub count_on : (ℕ → Option ℕ) → ℕ → ℕ → ℕ
count_on home list n = sum_to (λ s. one_on (home s) list) n

-- the slots that were on this list wait on list 66, and the moment is the least of theirs
abbrev pub IsGatheredAt : List ℤ → ℕ → ℤ → ℕ → ℤ → Type 0
IsGatheredAt ends list least l m = ((l ≡ 66) × (least ≤ℤ m) × IsInBucket ends (list - 1) m)
    ⊎ ((list < l) × IsInBucket ends (l - 1) m)

pub record IsGathered (b : Buckets) (list : ℕ) (least : ℤ) : Type 0 where
  pub home : ℕ → Option ℕ
  pub homed : IsHomed b home
  pub ends : AreEnds b.ends.items
  pub bucket : IsInBucket b.ends.items (list - 1) least
  pub fits : (s l : ℕ) → home s ≡ Some l
      → IsGatheredAt b.ends.items list least l (kept_moment b s)
  pub there : ℕ
  pub within : there < b.slots
  pub some : is_some (home there) ≡ true
  pub moment : kept_moment b there ≡ least

-- of the slots that wait so many have been put on the lists of their buckets
pub record IsRefiling (b : Buckets) (moved : ℕ) : Type 0 where
  pub home : ℕ → Option ℕ
  pub homed : IsHomed b home
  pub ends : AreEnds b.ends.items
  pub count_limit : count_on home 66 b.slots + moved ≤ b.slots
  pub fits : (s l : ℕ) → home s ≡ Some l
      → ((l ≡ 66) × (end_at b.ends.items 0 ≤ℤ kept_moment b s))
      ⊎ IsInBucket b.ends.items (l - 1) (kept_moment b s)

-- of the first slots so many have been taken out of the first bucket, which ends at `last`, into
-- the second one
pub record IsLowering (b : Buckets) (last : ℤ) (count : ℕ) : Type 0 where
  pub home : ℕ → Option ℕ
  pub homed : IsHomed b home
  pub ends : AreEnds b.ends.items
  pub first : last ≡ end_at b.ends.items 0
  pub fits : (s l : ℕ) → home s ≡ Some l → ((l ≡ 2) × (kept_moment b s ≡ last))
      ⊎ (IsInBucket b.ends.items (l - 1) (kept_moment b s) × (s < count → kept_moment b s ≢ last))
