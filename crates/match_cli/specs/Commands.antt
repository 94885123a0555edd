-- What a command reads, and which kind it is for.
use Rattle.std.specs.Prelude.{◌≡◌, ℕ, ◌≤◌, ◌^◌, List, [], length, Option, None, Some, IfSome}
use Rattle.mb_problem.specs.declared.kind.Kind.{Kind}
use Rattle.match_cli.specs.Arguments.{command_of}
use Rattle.match_cli.specs.declared.command.Command.{Command}
use Rattle.match_cli.specs.declared.command.Command.TheVariants.{Check, Solve, Trial}

-- the kind that a command is for
abbrev pub kind_of : Command → Kind
kind_of (Check kind) = kind
kind_of (Solve kind detail) = kind
kind_of (Trial kind start n m) = kind

-- how many bytes of input a command takes, where it reads any: a trial makes its instance
abbrev pub limit_of : Command → Option ℕ
limit_of (Check kind) = Some (2 ^ 29)
limit_of (Solve kind detail) = Some (2 ^ 24)
limit_of (Trial kind start n m) = None

-- the bytes are within the limit of a command that reads them
abbrev pub IsShort : Command → List ℕ → Type 0
IsShort command bytes = IfSome (limit_of command) (λ limit. length bytes ≤ limit)

-- the words are those of a command that reads at most so many bytes
abbrev pub ReadsUpTo : List (List ℕ) → ℕ → Type 0
ReadsUpTo words limit = (command : Command) × (command_of words ≡ Some command)
    × (limit_of command ≡ Some limit)

-- What an answer hangs on besides the words: the bytes of the source, where the words are a command
-- that reads them, else no bytes.
abbrev pub given : Option Command → Option (List ℕ) → Option (List ℕ)
given None source = Some []
given (Some (Check kind)) source = source
given (Some (Solve kind detail)) source = source
given (Some (Trial kind start n m)) source = Some []

-- a source is left as it was where it isn't read
abbrev pub KeepsUnread : {S : Type 0} → Option Command → S → S → Type 0
KeepsUnread None before after = after ≡ before
KeepsUnread (Some (Check kind)) before after = Unit {0}
KeepsUnread (Some (Solve kind detail)) before after = Unit {0}
KeepsUnread (Some (Trial kind start n m)) before after = after ≡ before
