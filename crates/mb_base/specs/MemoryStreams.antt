-- Sources and sinks in memory as contracts see them, and what a call of one does.
use Rattle.std.specs.Prelude.{ℕ, ◌+◌, ◌-◌, ◌^◌, Bool, ◌&&◌, ◌==◌, nat_le, if◌then◌else◌, min, List}
use Rattle.std.specs.Prelude.{◌++◌, length, take, drop, Option, None, Some}
use Rattle.std.specs.List.{list_any}

-- the numbers from 1 of the calls that fail, how many calls there were, and how many of them failed
pub record FaultPlan : Type 0 where
  pub fails : List ℕ
  pub calls : ℕ
  pub faults : ℕ

-- the number of the next call; one past 2^64 - 1 has that number too
abbrev pub next_call : FaultPlan → ℕ
next_call p = min (p.calls + 1) (2 ^ 64 - 1)

abbrev pub fails_next : FaultPlan → Bool
fails_next p = list_any (λ call. call == next_call p) p.fails

abbrev pub after_call : FaultPlan → FaultPlan
after_call p = record p {
  calls = next_call p;
  faults = (if fails_next p then p.faults + 1 else p.faults);
}

-- the bytes still to come, and how many come at most at a time
pub record MemoryInput : Type 0 where
  pub left : List ℕ
  pub piece : ℕ

-- how many bytes come into a buffer of this length
abbrev pub given : MemoryInput → ℕ → ℕ
given s room = min (min room s.piece) (length s.left)

-- n bytes further
abbrev pub past : MemoryInput → ℕ → MemoryInput
past s n = record s { left = drop n s.left }

-- the bytes that were kept, how many those are at most, how many are taken at most at a time, and
-- whether all that were taken were kept
pub record MemoryOutput : Type 0 where
  pub kept : List ℕ
  pub room : ℕ
  pub piece : ℕ
  pub is_whole : Bool

-- how many bytes more are kept
abbrev pub room_left : MemoryOutput → ℕ
room_left s = s.room - length s.kept

-- the bytes that were taken, where those are known
abbrev pub told : MemoryOutput → Option (List ℕ)
told s = if s.is_whole then Some s.kept else None

-- how many bytes of a piece of this length are taken
abbrev pub taken_of : MemoryOutput → ℕ → ℕ
taken_of s n = min n s.piece

-- these bytes were taken
abbrev pub with_more : MemoryOutput → List ℕ → MemoryOutput
with_more s bytes = record s {
  kept = s.kept ++ take (room_left s) bytes;
  is_whole = s.is_whole && nat_le (length s.kept + length bytes) s.room;
}

-- a source that fails as planned
pub record FailingInput : Type 0 where
  pub input : MemoryInput
  pub plan : FaultPlan

-- a sink that fails as planned
pub record FailingOutput : Type 0 where
  pub output : MemoryOutput
  pub plan : FaultPlan
