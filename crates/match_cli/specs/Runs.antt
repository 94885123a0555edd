-- What a run leaves of its source and its sink, by its status.
use Rattle.std.specs.Prelude.{◌≡◌, ℕ, ◌+◌, ◌<◌, List, [], ◌∷◌, ◌++◌, length, take, drop, codes}
use Rattle.std.specs.Prelude.{Option, Some, None, IfSome}
use Rattle.mb_base.specs.Streams.{Extends, UsesRoom, StaysTold}
use Rattle.graph_theory.specs.Limits.{IsWithinLimits}
use Rattle.mb_problem.specs.declared.kind.Kind.{Kind}
use Rattle.mb_problem.specs.Network.{Network}
use Rattle.mb_problem.specs.Size.{size_of}
use Rattle.doc_format.specs.declared.document.Document.{Document}
use Rattle.mb_problem.specs.Kinds.{kind_text}
use Rattle.solve_answers.specs.declared.detail.Detail.TheVariants.{Full}
use Rattle.check_text.specs.declared.status.Status.{Status}
use Rattle.check_text.specs.declared.status.Status.TheVariants.{Done, Rejected, Usage, Malformed}
use Rattle.check_text.specs.declared.status.Status.TheVariants.{TooLarge, TooLong, ReadFault}
use Rattle.check_text.specs.declared.status.Status.TheVariants.{WriteFault, OutOfMemory}
use Rattle.match_cli.specs.declared.command.Command.{Command}
use Rattle.match_cli.specs.declared.command.Command.TheVariants.{Check, Solve, Trial}
use Rattle.match_cli.specs.Arguments.{command_of}
use Rattle.inst_gen.specs.Made.{made}
use Rattle.match_cli.specs.Commands.{kind_of, IsShort, ReadsUpTo, given}
use Rattle.match_cli.specs.Solving.{Solves}
use Rattle.match_cli.specs.Counts.{CountsSearch, CountsSteps}
use Rattle.check_text.specs.Answers.{document_part, Accepts}
use Rattle.match_cli.specs.Answers.{HasInstance, Gives, Out, HoldsAlone}

-- what a command leaves of the source's bytes: nothing if it reads them, else all
abbrev pub left_by : Command → List ℕ → List ℕ
left_by (Check kind) bytes = []
left_by (Solve kind detail) bytes = []
left_by (Trial kind start n m) bytes = bytes

-- What is left of the source's bytes after an answer: all of them where the words aren't a command,
-- what comes after one byte past the limit where the input is too long, else what the command
-- leaves.
abbrev pub Spends : List (List ℕ) → List ℕ → Option (List ℕ) → Status → Type 0
Spends words bytes left Usage = left ≡ Some bytes
Spends words bytes left TooLong = (limit : ℕ) × ReadsUpTo words limit
    × (left ≡ Some (drop (limit + 1) bytes))
Spends words bytes left status = (command : Command) × (command_of words ≡ Some command)
    × (left ≡ Some (left_by command bytes))

-- This is the answer for what is given, and so much is left then, where the source tells its bytes.
abbrev pub IsAnswer : List (List ℕ) → Option (List ℕ) → Option (List ℕ) → List ℕ → Status → Type 0
IsAnswer words before after out status = IfSome (given (command_of words) before)
    (λ bytes. Out words bytes out status) × IfSome before (λ bytes. Spends words bytes after status)

-- a status with something to write
abbrev pub IsWritten : Status → Type 0
IsWritten Done = Unit {0}
IsWritten Rejected = Unit {0}
IsWritten Usage = Unit {0}
IsWritten Malformed = Unit {0}
IsWritten TooLarge = Unit {0}
IsWritten TooLong = Unit {0}
IsWritten _ = ⊥

-- Usage says that the words are no command, whatever the source tells, and no other answer does.
abbrev pub IsUsage : List (List ℕ) → Status → Type 0
IsUsage words Usage = command_of words ≡ None
IsUsage words status = (command : Command) × (command_of words ≡ Some command)

-- What a run sees around it: the bytes that are left, where the source tells them; those that were
-- taken, where the sink tells them, and how many more it is sure to tell; the steps counted so far.
pub record Around : Type 0 where
  pub left : Option (List ℕ)
  pub taken : Option (List ℕ)
  pub room : ℕ
  pub steps : ℕ

-- this text and status were decided on, and so many steps came to them
pub record IsDecided (words : List (List ℕ)) (before after : Around) (out : List ℕ)
    (status : Status) : Type 0 where
  pub written : IsWritten status
  pub answer : IsAnswer words before.left after.left out status
  pub usage : IsUsage words status
  pub steps : CountsSteps (command_of words) before.steps after.steps status

-- the sink took these bytes; where there was room for them, it has so much less, and tells what it
-- took if it told before
pub record Takes (before after : Around) (bytes : List ℕ) : Type 0 where
  pub taken : Extends before.taken after.taken bytes
  pub room : UsesRoom before.room after.room (length bytes)
  pub told : StaysTold before.room before.taken after.taken (length bytes)

-- the sink took nothing
pub record TakesNothing (before after : Around) : Type 0 where
  pub taken : after.taken ≡ before.taken
  pub room : after.room ≡ before.room

-- What a run leaves. Where a write fails, its front was taken, and the steps are those of the
-- answer that was to be written.
abbrev pub Runs : List (List ℕ) → Around → Around → Status → Type 0
Runs words before after ReadFault = TakesNothing before after × (after.steps ≡ before.steps)
    × ((limit : ℕ) × ReadsUpTo words limit)
Runs words before after OutOfMemory = TakesNothing before after
    × CountsSearch (command_of words) before.steps after.steps
Runs words before after WriteFault = (status : Status) × (out : List ℕ)
    × IsDecided words before after out status × (n : ℕ) × (n < length out)
    × Takes before after (take n out)
Runs words before after status = (out : List ℕ) × IsDecided words before after out status
    × Takes before after out

-- Which count of faults rose: the source's exactly if the status is ReadFault, the sink's exactly
-- if it is WriteFault.
abbrev pub CountsRun : ℕ → ℕ → ℕ → ℕ → Status → Type 0
CountsRun source_before source_after sink_before sink_after ReadFault =
    (source_before < source_after) × (sink_after ≡ sink_before)
CountsRun source_before source_after sink_before sink_after WriteFault =
    (source_after ≡ source_before) × (sink_before < sink_after)
CountsRun source_before source_after sink_before sink_after status = (source_after ≡ source_before)
    × (sink_after ≡ sink_before)

-- what a document states that was accepted, written or tried is true of its instance
abbrev pub IsTrueBy : Command → List ℕ → Type 0
IsTrueBy (Check kind) bytes = (i : Network) × (d : Document) × Accepts kind bytes i d
IsTrueBy (Solve kind detail) bytes = (i : Network) × (d : Document) × HoldsAlone kind bytes i
    × Solves kind i d
IsTrueBy (Trial kind start n m) bytes = (d : Document) × Solves kind (made kind start n m) d

abbrev pub TellsTrue : Command → List ℕ → Status → Type 0
TellsTrue command bytes Done = IsTrueBy command bytes
TellsTrue command bytes status = Unit {0}

abbrev pub TellsTruth : List (List ℕ) → Option (List ℕ) → Status → Type 0
TellsTruth words before Done = IfSome (given (command_of words) before)
    (λ bytes. (command : Command) × (command_of words ≡ Some command) × IsTrueBy command bytes)
TellsTruth words before status = Unit {0}

-- ---- what was solved is accepted

-- the last byte is a line feed
abbrev pub EndsLine : List ℕ → Type 0
EndsLine bytes = (front : List ℕ) × (bytes ≡ front ++ 10 ∷ [])

-- `check` accepts what a full answer of `solve` wrote where it follows the input
abbrev pub IsAcceptedBehind : Command → List ℕ → List ℕ → Status → Type 0
IsAcceptedBehind command bytes written Done = (kind : Kind) → command ≡ Solve kind Full
    → EndsLine bytes → Gives (Check kind) (bytes ++ written) (codes "s ACCEPTED\n") Done
IsAcceptedBehind command bytes written status = Unit {0}

-- the same of the words of `check`, under any name of the program
abbrev pub IsAccepted : Kind → List ℕ → List ℕ → Type 0
IsAccepted kind bytes written = (name : List ℕ)
    → Out (name ∷ codes "check" ∷ kind_text kind ∷ []) (bytes ++ written)
    (codes "s ACCEPTED\n") Done

abbrev pub IsAcceptedAgain : List (List ℕ) → Option (List ℕ) → Option (List ℕ) → Option (List ℕ)
    → Status → Type 0
IsAcceptedAgain words before taken_before taken_after Done =
    IfSome before (λ bytes. IfSome taken_before (λ taken. IfSome taken_after (λ now.
    (kind : Kind) (written : List ℕ) → command_of words ≡ Some (Solve kind Full) → EndsLine bytes
    → now ≡ taken ++ written → IsAccepted kind bytes written)))
IsAcceptedAgain words before taken_before taken_after status = Unit {0}

-- ---- every input within the limits is answered

-- nothing follows the instance, unless a document may
abbrev pub EndsInput : Command → List ℕ → Type 0
EndsInput (Check kind) bytes = Unit {0}
EndsInput (Solve kind detail) bytes = document_part bytes ≡ []
EndsInput (Trial kind start n m) bytes = Unit {0}

-- the bytes are within the limit of the command, whose instance this is, within the limits too
pub record IsInput (command : Command) (bytes : List ℕ) (i : Network) : Type 0 where
  pub short : IsShort command bytes
  pub holds : HasInstance command bytes i
  pub fits : IsWithinLimits (size_of (kind_of command) i)
  pub ends : EndsInput command bytes

-- `check` may refuse a document
abbrev pub MayReject : Command → Type 0
MayReject (Check kind) = Unit {0}
MayReject (Solve kind detail) = ⊥
MayReject (Trial kind start n m) = ⊥

-- the answer of a command to an input, or a fault
abbrev pub IsAnswered : Command → Status → Type 0
IsAnswered command Done = Unit {0}
IsAnswered command Rejected = MayReject command
IsAnswered command ReadFault = Unit {0}
IsAnswered command WriteFault = Unit {0}
IsAnswered command OutOfMemory = Unit {0}
IsAnswered command status = ⊥

abbrev pub IsComplete : Command → List ℕ → Status → Type 0
IsComplete command bytes status = (i : Network) → IsInput command bytes i
    → IsAnswered command status

abbrev pub Completes : List (List ℕ) → Option (List ℕ) → Status → Type 0
Completes words before status =
    IfSome (given (command_of words) before) (λ bytes. (command : Command) (i : Network)
    → command_of words ≡ Some command → IsInput command bytes i → IsAnswered command status)
