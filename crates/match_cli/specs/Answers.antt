-- What the program answers to its words and its input: what is written, and the status.
use Rattle.std.specs.Prelude.{◌≡◌, ℕ, ◌+◌, ◌<◌, ◌⊎◌, List, length, codes, Option, None, Some}
use Rattle.mb_base.specs.Rows.{rows}
use Rattle.graph_theory.specs.Limits.{IsWithinLimits}
use Rattle.mb_problem.specs.declared.kind.Kind.{Kind}
use Rattle.mb_problem.specs.Network.{Network}
use Rattle.mb_problem.specs.Size.{size_of}
use Rattle.dimacs_read.specs.declared.rule.Rule.{Rule}
use Rattle.dimacs_read.specs.declared.rule.Rule.TheVariants.{UnknownLine}
use Rattle.dimacs_read.specs.Rows.{is_solution}
use Rattle.dimacs_read.specs.Format.{IsFirstFault, first_place}
use Rattle.doc_format.specs.declared.document.Document.{Document}
use Rattle.doc_format.specs.Spelling.{document_text}
use Rattle.solve_answers.specs.declared.detail.Detail.{Detail}
use Rattle.solve_answers.specs.Details.{is_brief}
use Rattle.check_text.specs.declared.status.Status.{Status}
use Rattle.check_text.specs.declared.status.Status.TheVariants.{Done, Usage, Malformed}
use Rattle.check_text.specs.declared.status.Status.TheVariants.{TooLarge, TooLong}
use Rattle.check_text.specs.Lines.{malformed_line, too_large_line}
use Rattle.check_text.specs.Answers.{instance_part, InputHolds, Decides}
use Rattle.match_cli.specs.declared.command.Command.{Command}
use Rattle.match_cli.specs.declared.command.Command.TheVariants.{Check, Solve, Trial}
use Rattle.match_cli.specs.Arguments.{command_of}
use Rattle.inst_gen.specs.Made.{made}
use Rattle.match_cli.specs.Commands.{limit_of, IsShort}
use Rattle.match_cli.specs.Solving.{Solves}
use Rattle.match_cli.specs.Trying.{TrialAnswer}

-- ---- solve

-- the place, from 0, of the first line that begins with the field s, if there is one
abbrev pub answer_place : List ℕ → Option ℕ
answer_place bytes = first_place is_solution (rows bytes)

-- the input holds this instance and nothing else
pub record HoldsAlone (kind : Kind) (bytes : List ℕ) (i : Network) : Type 0 where
  pub holds : InputHolds kind bytes i
  pub alone : answer_place bytes ≡ None

-- The first rule that an input for `solve` breaks, and its line: one of the instance, or an answer
-- follows a whole instance.
abbrev pub RefusesInput : Kind → List ℕ → Rule → ℕ → Type 0
RefusesInput kind bytes rule line =
    IsFirstFault kind (instance_part bytes) rule line
    ⊎ (((i : Network) × InputHolds kind bytes i) × (rule ≡ UnknownLine)
    × ((k : ℕ) × (answer_place bytes ≡ Some k) × (line ≡ k + 1)))

-- what `solve` writes, in full or in brief, and its status, for input within its limit of bytes
abbrev pub DecidesSolve : Kind → Detail → List ℕ → List ℕ → Status → Type 0
DecidesSolve kind detail bytes out Malformed = (rule : Rule) × (line : ℕ)
    × RefusesInput kind bytes rule line × (out ≡ malformed_line rule line)
DecidesSolve kind detail bytes out TooLarge = (i : Network) × HoldsAlone kind bytes i
    × ¬ IsWithinLimits (size_of kind i) × (out ≡ too_large_line (size_of kind i))
DecidesSolve kind detail bytes out Done = (i : Network) × (d : Document) × HoldsAlone kind bytes i
    × IsWithinLimits (size_of kind i) × Solves kind i d
    × (out ≡ document_text d (is_brief detail))
DecidesSolve kind detail bytes out _ = ⊥

-- ---- the program

-- the instance that a command is about: the one that its input holds, or that it makes
abbrev pub HasInstance : Command → List ℕ → Network → Type 0
HasInstance (Check kind) bytes i = InputHolds kind bytes i
HasInstance (Solve kind detail) bytes i = InputHolds kind bytes i
HasInstance (Trial kind start n m) bytes i = i ≡ made kind start n m

-- what a command writes, and its status, for input within its limit of bytes
abbrev pub Answers : Command → List ℕ → List ℕ → Status → Type 0
Answers (Check kind) bytes out status = Decides kind bytes out status
Answers (Solve kind detail) bytes out status = DecidesSolve kind detail bytes out status
Answers (Trial kind start n m) bytes out status = TrialAnswer kind (made kind start n m) out status

-- What a command answers to the bytes of any input: what is written, and the status.
abbrev pub Gives : Command → List ℕ → List ℕ → Status → Type 0
Gives command bytes out TooLong = (limit : ℕ) × (limit_of command ≡ Some limit)
    × (limit < length bytes) × (out ≡ codes "s TOOLONG\n")
Gives command bytes out status = IsShort command bytes × Answers command bytes out status

-- The answer to words and bytes: usage, or what the command answers that the words are.
abbrev pub Out : List (List ℕ) → List ℕ → List ℕ → Status → Type 0
Out words bytes out Usage = (command_of words ≡ None) × (out ≡ codes "s USAGE\n")
Out words bytes out status = (command : Command) × (command_of words ≡ Some command)
    × Gives command bytes out status
