-- How many steps a run counts.
use Rattle.std.specs.Prelude.{◌≡◌, ℕ, ◌+◌, ◌*◌, ◌≤◌, List, Option, None, Some, IfSome, Result, Ok}
use Rattle.std.specs.Prelude.{Err}
use Rattle.graph_theory.specs.declared.limits.TheConstants.{GRAPH_VERTEX_LIMIT, GRAPH_EDGE_LIMIT}
use Rattle.graph_theory.specs.Limits.{Size}
use Rattle.mb_problem.specs.Network.{Network}
use Rattle.mb_problem.specs.Size.{size_of}
use Rattle.mwpm_engine.specs.Solutions.{most_steps}
use Rattle.mb_problem.specs.Kinds.{searches_of}
use Rattle.check_text.specs.declared.status.Status.{Status}
use Rattle.check_text.specs.declared.status.Status.TheVariants.{Done, OutOfMemory}
use Rattle.check_text.specs.declared.output.Output.{Output}
use Rattle.match_cli.specs.declared.command.Command.{Command}
use Rattle.match_cli.specs.declared.command.Command.TheVariants.{Check, Solve, Trial}
use Rattle.match_cli.specs.Arguments.{command_of}
use Rattle.match_cli.specs.Commands.{kind_of, given}
use Rattle.match_cli.specs.Answers.{HasInstance}

-- the size of the largest graph that is searched
abbrev pub largest : Size
largest = record { vertices = GRAPH_VERTEX_LIMIT; edges = GRAPH_EDGE_LIMIT }

-- only `solve` and `trial` count: the steps of their searches at most
abbrev pub CountsSearch : Option Command → ℕ → ℕ → Type 0
CountsSearch None before after = after ≡ before
CountsSearch (Some (Check kind)) before after = after ≡ before
CountsSearch (Some (Solve kind detail)) before after = after
    ≤ before + searches_of kind * most_steps largest
CountsSearch (Some (Trial kind start n m)) before after = after
    ≤ before + searches_of kind * most_steps largest

-- nothing is counted where words or input are refused
abbrev pub CountsSteps : Option Command → ℕ → ℕ → Status → Type 0
CountsSteps command before after Done = CountsSearch command before after
CountsSteps command before after status = after ≡ before

abbrev pub CountsAnswer : {E : Type 0} → Command → ℕ → ℕ → Result Output E → Type 0
CountsAnswer command before after (Ok a) = CountsSteps (Some command) before after a.status
CountsAnswer command before after (Err e) = CountsSearch (Some command) before after

-- the same, if running out of memory is one of the statuses
abbrev pub CountsCall : Command → ℕ → ℕ → Status → Type 0
CountsCall command before after OutOfMemory = CountsSearch (Some command) before after
CountsCall command before after status = CountsSteps (Some command) before after status

-- for its instance a command counts no more steps than its searches on the certificate graph take
abbrev pub CountsInstance : Option Command → List ℕ → ℕ → ℕ → Type 0
CountsInstance command bytes before after =
    (c : Command) (i : Network) → command ≡ Some c → HasInstance c bytes i
    → after ≤ before + searches_of (kind_of c) * most_steps (size_of (kind_of c) i)

abbrev pub CountsSource : List (List ℕ) → Option (List ℕ) → ℕ → ℕ → Type 0
CountsSource words source before after = IfSome (given (command_of words) source)
    (λ bytes. CountsInstance (command_of words) bytes before after)
