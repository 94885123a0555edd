-- The answer that stands ready before anything is written.
use Rattle.std.specs.Prelude.{◌≡◌, ℕ, ◌<◌, List, Option, Result, Ok, Err}
use Rattle.check_text.specs.declared.status.Status.{Status}
use Rattle.check_text.specs.declared.output.Output.{Output}
use Rattle.match_cli.specs.declared.program.Failure.{Failure}
use Rattle.match_cli.specs.declared.program.Failure.TheVariants as stop
use Rattle.match_cli.specs.declared.command.Command.{Command}
use Rattle.match_cli.specs.Commands.{ReadsUpTo}
use Rattle.match_cli.specs.Counts.{CountsSearch, CountsSteps}
use Rattle.match_cli.specs.Runs.{IsAnswer, IsUsage, IsWritten}

-- this text and status, or out of memory
abbrev pub Readies : List ℕ → Status → Result Output Failure → Type 0
Readies text status (Ok a) = (a.text.items ≡ text) × (a.status ≡ status)
Readies text status (Err stop.ReadFault) = ⊥
Readies text status (Err stop.OutOfMemory) = Unit {0}

abbrev pub Prepares : List (List ℕ) → Option (List ℕ) → Option (List ℕ) → Result Output Failure
    → Type 0
Prepares words before after (Ok a) = IsWritten a.status
    × IsAnswer words before after a.text.items a.status
Prepares words before after (Err stop.ReadFault) = (limit : ℕ) × ReadsUpTo words limit
Prepares words before after (Err stop.OutOfMemory) = Unit {0}

-- Usage is for words that are no command, whatever the source tells
abbrev pub PreparesUsage : List (List ℕ) → Result Output Failure → Type 0
PreparesUsage words (Ok a) = IsUsage words a.status
PreparesUsage words (Err e) = Unit {0}

abbrev pub CountsPrepared : ℕ → ℕ → Result Output Failure → Type 0
CountsPrepared before after (Ok a) = after ≡ before
CountsPrepared before after (Err stop.ReadFault) = before < after
CountsPrepared before after (Err stop.OutOfMemory) = after ≡ before

-- the count of steps, by the answer
abbrev pub CountsPreparedSteps : Option Command → ℕ → ℕ → Result Output Failure → Type 0
CountsPreparedSteps command before after (Ok a) = CountsSteps command before after a.status
CountsPreparedSteps command before after (Err stop.ReadFault) = after ≡ before
CountsPreparedSteps command before after (Err stop.OutOfMemory) = CountsSearch command before after
