-- What a source and a sink of bytes do, and what reading all and writing all leave of them.
use Rattle.std.specs.Prelude.{◌≡◌, ℕ, ◌+◌, ◌<◌, ◌≤◌, List, [], ◌++◌, length, take, ⊤, Option, None}
use Rattle.std.specs.Prelude.{Some, Result, Ok, Err, MatchResult, IsSome}
use Rattle.std.specs.Global.{Vec}
use Rattle.std.specs.Io.KnownBytes.{Consumes, IsAtEnd}
use Rattle.mb_base.specs.declared.whole.ReadAll.{ReadAll}
use Rattle.mb_base.specs.declared.whole.ReadAll.TheVariants.{ReadFault, TooLong, OutOfMemory}
use Rattle.mb_base.specs.declared.whole.WriteFault.{WriteFault}

-- A count of faults stays at Ok and rises at Err.
abbrev pub CountsFaults : {T E : Type 0} → ℕ → ℕ → Result T E → Type 0
CountsFaults before now r = MatchResult r (λ _. now ≡ before) (λ _. before < now)

-- A count of faults rises exactly if reading all answers a fault.
abbrev pub CountsReadFaults : ℕ → ℕ → Result (Vec ℕ) ReadAll → Type 0
CountsReadFaults before now (Ok v) = now ≡ before
CountsReadFaults before now (Err ReadFault) = before < now
CountsReadFaults before now (Err TooLong) = now ≡ before
CountsReadFaults before now (Err OutOfMemory) = now ≡ before

-- Taken bytes that are told afterwards were told before, and these bytes followed them.
abbrev pub Extends : Option (List ℕ) → Option (List ℕ) → List ℕ → Type 0
Extends old None bytes = ⊤
Extends None (Some ys) bytes = ⊥
Extends (Some xs) (Some ys) bytes = ys ≡ xs ++ bytes

-- A write took k bytes at Ok k, at least one of a piece that has one, and nothing at Err.
abbrev pub TakesPiece : {E : Type 0} → Option (List ℕ) → Option (List ℕ) → Result ℕ E → List ℕ
    → Type 0
TakesPiece old new r piece = MatchResult r (λ k. (k ≤ length piece) × (0 < length piece → 0 < k)
    × Extends old new (take k piece)) (λ _. Extends old new [])

-- While there is room for what was taken, the room shrinks by that and what is told stays told.
abbrev pub KeepsRoom : {E : Type 0} → ℕ → ℕ → Option (List ℕ) → Option (List ℕ) → Result ℕ E
    → Type 0
KeepsRoom room left old new r = MatchResult r
    (λ k. k ≤ room → (left + k ≡ room) × (IsSome old → IsSome new))
    (λ _. (left ≡ room) × (IsSome old → IsSome new))

-- What reading all bytes up to a limit leaves of the source, by its answer.
abbrev pub ReadsAll : ℕ → Option (List ℕ) → Option (List ℕ) → Result (Vec ℕ) ReadAll → Type 0
ReadsAll limit old new (Ok v) = (length v.items ≤ limit) × Consumes old new v.items × IsAtEnd new
ReadsAll limit old new (Err ReadFault) = (bytes : List ℕ) × (length bytes ≤ limit)
    × Consumes old new bytes
ReadsAll limit old new (Err TooLong) = (bytes : List ℕ) × (length bytes ≡ limit + 1)
    × Consumes old new bytes
ReadsAll limit old new (Err OutOfMemory) = (bytes : List ℕ) × (length bytes ≤ limit + 1)
    × Consumes old new bytes

-- How many bytes were taken where all of so many were to be written.
abbrev pub count_taken : ℕ → Result Unit WriteFault → ℕ
count_taken count (Ok _) = count
count_taken count (Err fault) = fault.done

-- If there was room for what was taken, the room has shrunk by that.
abbrev pub UsesRoom : ℕ → ℕ → ℕ → Type 0
UsesRoom room left taken = taken ≤ room → left + taken ≡ room

-- If there was room for what was taken, what was told is told.
abbrev pub StaysTold : ℕ → Option (List ℕ) → Option (List ℕ) → ℕ → Type 0
StaysTold room old new taken = taken ≤ room → IsSome old → IsSome new

-- What writing all bytes leaves of the sink, by its answer.
abbrev pub WritesAll : Option (List ℕ) → Option (List ℕ) → List ℕ → Result Unit WriteFault → Type 0
WritesAll old new bytes (Ok _) = Extends old new bytes
WritesAll old new bytes (Err fault) = (fault.done < length bytes)
    × Extends old new (take fault.done bytes)
