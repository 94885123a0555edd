-- The numbers of tasks and endings, by which C names them beside kinds.
use Rattle.std.specs.Prelude.{◌≡◌, ℕ, Option, None, Some}
use Rattle.check_text.specs.Codes.{code_of}
use Rattle.match_cli.specs.declared.task.Task.{Task}
use Rattle.match_cli.specs.declared.task.Task.TheVariants.{Solve, SolveBriefly, Check}
use Rattle.blossom_c.specs.declared.call_status.CallStatus.{CallStatus}
use Rattle.blossom_c.specs.declared.call_status.CallStatus.TheVariants.{Answered, ShortBuffer}
use Rattle.blossom_c.specs.declared.call_status.CallStatus.TheVariants.{NoSuchCall}

abbrev pub number_of_task : Task → ℕ
number_of_task Solve = 1
number_of_task SolveBriefly = 2
number_of_task Check = 3

-- the exit statuses of the program, and two beyond them
abbrev pub number_of_ending : CallStatus → ℕ
number_of_ending (Answered status) = code_of status
number_of_ending ShortBuffer = 9
number_of_ending NoSuchCall = 10

-- no value has the number
abbrev pub IsUnnumbered : {T : Type 0} → (T → ℕ) → ℕ → Type 0
IsUnnumbered {T} number_of number = (x : T) → number_of x ≡ number → ⊥

-- this is the value of the number, or no value has it
abbrev pub IsNumbered : {T : Type 0} → (T → ℕ) → ℕ → Option T → Type 0
IsNumbered number_of number (Some x) = number_of x ≡ number
IsNumbered number_of number None = IsUnnumbered number_of number
