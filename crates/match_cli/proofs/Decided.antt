-- What follows from the answer of a command alone: how it can end, and that what it states is true.
use Rattle.graph_theory.proofs.Common.{ℕ, List}
use Rattle.match_cli.specs.declared.command.Command.{Command}
use Rattle.match_cli.specs.declared.command.Command.TheVariants.{Check, Solve, Trial}
use Rattle.check_text.specs.declared.status.Status.{Status}
use Rattle.check_text.specs.declared.status.Status.TheVariants.{Done, Rejected, Usage, Malformed, TooLarge, TooLong, ReadFault, WriteFault, OutOfMemory}
use Rattle.match_cli.specs.Answers.{Answers, Gives}
use Rattle.match_cli.specs.Runs.{IsTrueBy, TellsTrue}

-- the statuses that a command can decide on
abbrev pub IsDecided : Status → Type 0
IsDecided Done = Unit {0}
IsDecided Rejected = Unit {0}
IsDecided Malformed = Unit {0}
IsDecided TooLarge = Unit {0}
IsDecided status = ⊥

pub decided : (command : Command) (bytes out : List ℕ) (status : Status) → Answers command bytes out status → IsDecided status
decided command bytes out Done h = tt
decided command bytes out Rejected h = tt
decided command bytes out Malformed h = tt
decided command bytes out TooLarge h = tt
decided (Check kind) bytes out Usage h = h
decided (Check kind) bytes out TooLong h = h
decided (Check kind) bytes out ReadFault h = h
decided (Check kind) bytes out WriteFault h = h
decided (Check kind) bytes out OutOfMemory h = h
decided (Solve kind detail) bytes out Usage h = h
decided (Solve kind detail) bytes out TooLong h = h
decided (Solve kind detail) bytes out ReadFault h = h
decided (Solve kind detail) bytes out WriteFault h = h
decided (Solve kind detail) bytes out OutOfMemory h = h
decided (Trial kind start n m) bytes out Usage h = h
decided (Trial kind start n m) bytes out TooLong h = h
decided (Trial kind start n m) bytes out ReadFault h = h
decided (Trial kind start n m) bytes out WriteFault h = h
decided (Trial kind start n m) bytes out OutOfMemory h = h

-- ---- what was accepted, written or tried is true

pub truth_by : (command : Command) (bytes out : List ℕ) → Answers command bytes out Done → IsTrueBy command bytes
truth_by (Check kind) bytes out h = (h.0, h.1, h.2)
truth_by (Solve kind detail) bytes out h = (h.0, h.1, h.2, h.4)
truth_by (Trial kind start n m) bytes out h = (h.1.0, h.1.1)

pub tells_true : (command : Command) (bytes out : List ℕ) (status : Status) → Gives command bytes out status → TellsTrue command bytes status
tells_true command bytes out Done h = truth_by command bytes out h.1
tells_true command bytes out Rejected h = tt
tells_true command bytes out Usage h = tt
tells_true command bytes out Malformed h = tt
tells_true command bytes out TooLarge h = tt
tells_true command bytes out TooLong h = tt
tells_true command bytes out ReadFault h = tt
tells_true command bytes out WriteFault h = tt
tells_true command bytes out OutOfMemory h = tt
