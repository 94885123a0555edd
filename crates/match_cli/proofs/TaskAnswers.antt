-- What a call promises, from the answer of its command.
use Rattle.mb_problem.proofs.Common.{ℕ, List}
use Rattle.mb_problem.specs.declared.kind.Kind.{Kind}
use Rattle.match_cli.specs.declared.command.Command.{Command}
use Rattle.match_cli.specs.Arguments.{HasRanges}
use Rattle.check_text.specs.declared.status.Status.{Status}
use Rattle.check_text.specs.declared.status.Status.TheVariants.{Done, Rejected, Usage, Malformed, TooLarge, TooLong, ReadFault, WriteFault, OutOfMemory}
use Rattle.match_cli.specs.Answers.{Gives}
use Rattle.match_cli.proofs.Decided.{decided}
use Rattle.match_cli.specs.declared.task.Task.{Task}
use Rattle.match_cli.specs.declared.task.Task.TheVariants.{Solve, SolveBriefly, Check}
use Rattle.match_cli.specs.Calls.{command_for, Calls}

-- a task makes no instance
pub ranges_for : (task : Task) (kind : Kind) → HasRanges (command_for task kind)
ranges_for Solve kind = tt
ranges_for SolveBriefly kind = tt
ranges_for Check kind = tt

pub calls : (command : Command) (bytes text : List ℕ) (status : Status) → Gives command bytes text status → Calls command bytes text status
calls command bytes text Done h = h
calls command bytes text Rejected h = h
calls command bytes text Usage h = absurd (decided command bytes text Usage h.1)
calls command bytes text Malformed h = h
calls command bytes text TooLarge h = h
calls command bytes text TooLong h = h
calls command bytes text ReadFault h = absurd (decided command bytes text ReadFault h.1)
calls command bytes text WriteFault h = absurd (decided command bytes text WriteFault h.1)
calls command bytes text OutOfMemory h = absurd (decided command bytes text OutOfMemory h.1)

-- no answer of a command is want of memory
