-- What a call over arrays leaves, by how it ended.
use Rattle.std.specs.Prelude.{◌≡◌, ℕ, ◌⊎◌, ℤ, List, length}
use Rattle.mb_problem.specs.declared.kind.Kind.{Kind}
use Rattle.mb_problem.specs.Kinds.{kind_number}
use Rattle.solve_answers.specs.declared.detail.Detail.{Detail}
use Rattle.solve_answers.specs.declared.detail.Detail.TheVariants.{Full, Brief}
use Rattle.array_call.specs.declared.calling.ArrayStatus.{ArrayStatus}
use Rattle.array_call.specs.declared.calling.ArrayStatus.TheVariants.{Done, Rejected, Malformed}
use Rattle.array_call.specs.declared.calling.ArrayStatus.TheVariants.{TooLarge, OutOfMemory}
use Rattle.array_call.specs.Arrays.{Arrays}
use Rattle.array_call.specs.Answers.{Gives, GivesSize}
use Rattle.array_call.specs.Checks.{GivesVerdict}
use Rattle.blossom_c.specs.declared.array_ending.ArrayEnding.{ArrayEnding}
use Rattle.blossom_c.specs.declared.array_ending.ArrayEnding.TheVariants.{Answered, ShortBuffer}
use Rattle.blossom_c.specs.declared.array_ending.ArrayEnding.TheVariants.{NoSuchCall}
use Rattle.blossom_c.specs.Numbers.{IsUnnumbered}
use Rattle.blossom_c.specs.Buffers.{StandsIn, IsTooLong}

-- the numbers of the two ways to solve: in full and in brief, as those of tasks
abbrev pub number_of_solving : Detail → ℕ
number_of_solving Full = 1
number_of_solving Brief = 2

-- the same numbers as those of endings of a call over texts
abbrev pub number_of_status : ArrayStatus → ℕ
number_of_status Done = 0
number_of_status Rejected = 1
number_of_status Malformed = 3
number_of_status TooLarge = 4
number_of_status OutOfMemory = 8

abbrev pub number_of_array_ending : ArrayEnding → ℕ
number_of_array_ending (Answered status) = number_of_status status
number_of_array_ending ShortBuffer = 9
number_of_array_ending NoSuchCall = 10

-- these numbers with this status stand in the buffer, or are too many for it; either way it is told
-- how many they are
abbrev pub HandsOver : List ℤ → ArrayStatus → List ℤ → List ℤ → ℕ → ArrayEnding → Type 0
HandsOver numbers status before after used (Answered told) = (told ≡ status)
    × (used ≡ length numbers) × StandsIn numbers before after
HandsOver numbers status before after used ShortBuffer = (used ≡ length numbers)
    × IsTooLong numbers before after
HandsOver numbers status before after used NoSuchCall = ⊥

-- Numbers with a status, of which this holds, stand in the buffer, or are too many for it. Either
-- way it is told how many they are.
abbrev pub Ends : (List ℤ → ArrayStatus → Type 0) → List ℤ → List ℤ → ℕ → ArrayEnding → Type 0
Ends gives before after used (Answered status) = (numbers : List ℤ) × gives numbers status
    × (used ≡ length numbers) × StandsIn numbers before after
Ends gives before after used ShortBuffer = (numbers : List ℤ) × (status : ArrayStatus)
    × gives numbers status × (used ≡ length numbers) × IsTooLong numbers before after
Ends gives before after used NoSuchCall = ⊥

-- For the numbers of a task and a kind; if no such task or no kind has the number, nothing is done.
abbrev pub EndsSolving : ℕ → ℕ → Arrays → List ℤ → List ℤ → ℕ → ArrayEnding → Type 0
EndsSolving task kind a before after used NoSuchCall = (IsUnnumbered number_of_solving task
    ⊎ IsUnnumbered kind_number kind) × (used ≡ 0) × (after ≡ before)
EndsSolving task kind a before after used ending =
    (detail : Detail) × (k : Kind) × (number_of_solving detail ≡ task) × (kind_number k ≡ kind)
    × Ends (Gives detail k a) before after used ending

abbrev pub EndsSizing : ℕ → Arrays → List ℤ → List ℤ → ℕ → ArrayEnding → Type 0
EndsSizing kind a before after used NoSuchCall = IsUnnumbered kind_number kind × (used ≡ 0)
    × (after ≡ before)
EndsSizing kind a before after used ending = (k : Kind) × (kind_number k ≡ kind)
    × Ends (GivesSize k a) before after used ending

-- the same for the numbers of an answer that is judged
abbrev pub EndsChecking : ℕ → Arrays → List ℤ → List ℤ → List ℤ → ℕ → ArrayEnding → Type 0
EndsChecking kind a numbers before after used NoSuchCall = IsUnnumbered kind_number kind
    × (used ≡ 0) × (after ≡ before)
EndsChecking kind a numbers before after used ending = (k : Kind) × (kind_number k ≡ kind)
    × Ends (GivesVerdict k a numbers) before after used ending

-- the number tells the ending
abbrev pub TellsSolving : ℕ → ℕ → Arrays → List ℤ → List ℤ → ℕ → ℕ → Type 0
TellsSolving task kind a before after used number = (ending : ArrayEnding)
    × (number ≡ number_of_array_ending ending) × EndsSolving task kind a before after used ending

abbrev pub TellsSizing : ℕ → Arrays → List ℤ → List ℤ → ℕ → ℕ → Type 0
TellsSizing kind a before after used number = (ending : ArrayEnding)
    × (number ≡ number_of_array_ending ending) × EndsSizing kind a before after used ending

abbrev pub TellsChecking : ℕ → Arrays → List ℤ → List ℤ → List ℤ → ℕ → ℕ → Type 0
TellsChecking kind a numbers before after used number =
    (ending : ArrayEnding) × (number ≡ number_of_array_ending ending)
    × EndsChecking kind a numbers before after used ending
