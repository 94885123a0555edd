-- What a call for C leaves, by how it ended.
use Rattle.std.specs.Prelude.{◌≡◌, ℕ, ◌⊎◌, List, length}
use Rattle.mb_problem.specs.declared.kind.Kind.{Kind}
use Rattle.mb_problem.specs.Kinds.{kind_number}
use Rattle.check_text.specs.declared.status.Status.{Status}
use Rattle.match_cli.specs.Runs.{TellsTrue, IsAcceptedBehind, IsComplete}
use Rattle.match_cli.specs.declared.task.Task.{Task}
use Rattle.match_cli.specs.Calls.{command_for, Calls}
use Rattle.blossom_c.specs.declared.call_status.CallStatus.{CallStatus}
use Rattle.blossom_c.specs.declared.call_status.CallStatus.TheVariants.{Answered, ShortBuffer}
use Rattle.blossom_c.specs.declared.call_status.CallStatus.TheVariants.{NoSuchCall}
use Rattle.blossom_c.specs.Numbers.{number_of_task, number_of_ending, IsUnnumbered}
use Rattle.blossom_c.specs.Buffers.{StandsIn, IsTooLong}

-- what `call` promises of its text and its status, but for the steps: C has no counter
pub record IsAnswer (task : Task) (kind : Kind) (input text : List ℕ) (status : Status) : Type 0
  where
    pub answer : Calls (command_for task kind) input text status
    pub truth : TellsTrue (command_for task kind) input status
    pub again : IsAcceptedBehind (command_for task kind) input text status
    pub complete : IsComplete (command_for task kind) input status

-- For a task and a kind: the answer stands in the buffer, or it is too long for it. Either way its
-- length is told.
abbrev pub Ends : Task → Kind → List ℕ → List ℕ → List ℕ → ℕ → CallStatus → Type 0
Ends task kind input before after used (Answered status) = (text : List ℕ)
    × IsAnswer task kind input text status × (used ≡ length text) × StandsIn text before after
Ends task kind input before after used ShortBuffer = (text : List ℕ) × (status : Status)
    × IsAnswer task kind input text status × (used ≡ length text) × IsTooLong text before after
Ends task kind input before after used NoSuchCall = ⊥

-- For the numbers of a task and a kind; if no task or no kind has the number, nothing is done.
abbrev pub EndsNumbered : ℕ → ℕ → List ℕ → List ℕ → List ℕ → ℕ → CallStatus → Type 0
EndsNumbered task kind input before after used NoSuchCall = (IsUnnumbered number_of_task task
    ⊎ IsUnnumbered kind_number kind) × (used ≡ 0) × (after ≡ before)
EndsNumbered task kind input before after used ending = (t : Task) × (k : Kind)
    × (number_of_task t ≡ task) × (kind_number k ≡ kind) × Ends t k input before after used ending

-- the number tells the ending
abbrev pub Tells : ℕ → ℕ → List ℕ → List ℕ → List ℕ → ℕ → ℕ → Type 0
Tells task kind input before after used number = (ending : CallStatus)
    × (number ≡ number_of_ending ending) × EndsNumbered task kind input before after used ending
