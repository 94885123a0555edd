-- Sets of terminals, one after another in one list.
use Rattle.std.specs.Prelude.{ℕ, ◌+◌, ◌-◌, ◌==◌, nat_lt, Bool, not, ◌||◌, ◌&&◌, if◌then◌else◌}
use Rattle.std.specs.Prelude.{List, length, take, drop, slice_index, Option, None, Some}
use Rattle.gadget_base.specs.Blocks.{tabled}
use Rattle.array_joins.specs.First.{first_of}

-- how many sets there are, if `starts` says where each begins and where the last ends
abbrev pub set_count : List ℕ → ℕ
set_count starts = length starts - 1

-- the terminals of the set at an index, from 0
abbrev pub set_at : List ℕ → List ℕ → ℕ → List ℕ
set_at starts terminals k = take (slice_index starts (k + 1) - slice_index starts k)
    (drop (slice_index starts k) terminals)

-- the sets, in their order
abbrev pub terminal_sets : List ℕ → List ℕ → List (List ℕ)
terminal_sets starts terminals = tabled (set_at starts terminals) (set_count starts)

-- the first start isn't 0, or another one is less than the start before it
abbrev pub falls_at : List ℕ → ℕ → Bool
falls_at starts k = if k == 0 then not (slice_index starts 0 == 0)
    else nat_lt (slice_index starts k) (slice_index starts (k - 1))

-- this is the last start, and it isn't the number of terminals
abbrev pub ends_wrong_at : List ℕ → ℕ → ℕ → Bool
ends_wrong_at starts count k = (k + 1 == length starts) && not (slice_index starts k == count)

-- the index itself if the start there is wrong, for so many terminals
abbrev pub wrong_start : List ℕ → ℕ → ℕ → Option ℕ
wrong_start starts count k = if falls_at starts k || ends_wrong_at starts count k then Some k
    else None

-- the index of the first wrong start, or of the one that is missing if there is none at all
abbrev pub starts_fault : List ℕ → ℕ → Option ℕ
starts_fault starts count = if length starts == 0 then Some 0
    else first_of (wrong_start starts count) (length starts)
