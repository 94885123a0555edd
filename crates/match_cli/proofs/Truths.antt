-- What a run tells of an accepted, written or tried document is true.
use Rattle.graph_theory.proofs.Common.{◌≡◌, ℕ, List, Option, Some, None, IfSome}
use Rattle.match_cli.specs.declared.command.Command.{Command}
use Rattle.match_cli.specs.Arguments.{command_of}
use Rattle.check_text.specs.declared.status.Status.{Status}
use Rattle.check_text.specs.declared.status.Status.TheVariants.{Done, Rejected, Usage, Malformed, TooLarge, TooLong, ReadFault, WriteFault, OutOfMemory}
use Rattle.match_cli.specs.Commands.{given}
use Rattle.match_cli.specs.Answers.{Out}
use Rattle.match_cli.specs.Runs.{IsAnswer, IsTrueBy, TellsTruth}
use Rattle.match_cli.proofs.Decided.{truth_by}

truth_of : (words : List (List ℕ)) (o : Option (List ℕ)) (out : List ℕ) → IfSome o (λ bytes. Out words bytes out Done) →
    IfSome o (λ bytes. (command : Command) × (command_of words ≡ Some command) × IsTrueBy command bytes)
truth_of words None out h = tt
truth_of words (Some bytes) out h = (h.0, h.1, truth_by h.0 bytes out h.2.1)

pub tells_truth : (words : List (List ℕ)) (before after : Option (List ℕ)) (out : List ℕ) (status : Status) → IsAnswer words before after out status → TellsTruth words before status
tells_truth words before after out Done h = truth_of words (given (command_of words) before) out h.0
tells_truth words before after out Rejected h = tt
tells_truth words before after out Usage h = tt
tells_truth words before after out Malformed h = tt
tells_truth words before after out TooLarge h = tt
tells_truth words before after out TooLong h = tt
tells_truth words before after out ReadFault h = tt
tells_truth words before after out WriteFault h = tt
tells_truth words before after out OutOfMemory h = tt
