-- What a call answers to its bytes.
use Rattle.std.specs.Prelude.{◌≡◌, ℕ, List, []}
use Rattle.mb_problem.specs.declared.kind.Kind.{Kind}
use Rattle.match_cli.specs.declared.command.Command.{Command}
use Rattle.match_cli.specs.declared.command.Command.TheVariants as command
use Rattle.solve_answers.specs.declared.detail.Detail.TheVariants.{Full, Brief}
use Rattle.check_text.specs.declared.status.Status.{Status}
use Rattle.check_text.specs.declared.status.Status.TheVariants.{Usage, ReadFault, WriteFault}
use Rattle.check_text.specs.declared.status.Status.TheVariants.{OutOfMemory}
use Rattle.match_cli.specs.Answers.{Gives}
use Rattle.match_cli.specs.declared.task.Task.{Task}
use Rattle.match_cli.specs.declared.task.Task.TheVariants.{Solve, SolveBriefly, Check}

-- the command that is the task for the kind
abbrev pub command_for : Task → Kind → Command
command_for Solve kind = command.Solve kind Full
command_for SolveBriefly kind = command.Solve kind Brief
command_for Check kind = command.Check kind

-- What the command answers to the bytes, the whole text and the status; or there isn't enough
-- memory, and no text. A task is a command, and bytes in memory are read and written without a
-- fault.
abbrev pub Calls : Command → List ℕ → List ℕ → Status → Type 0
Calls command bytes text Usage = ⊥
Calls command bytes text ReadFault = ⊥
Calls command bytes text WriteFault = ⊥
Calls command bytes text OutOfMemory = text ≡ []
Calls command bytes text status = Gives command bytes text status
