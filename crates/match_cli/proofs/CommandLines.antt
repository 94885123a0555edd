-- What the words of a command line can ask for, and what is read for them.
use Rattle.certificates.proofs.Common.{◌≡◌, ℕ, List, [], ◌∷◌, Option, Some, refl, ap, codes, option_map, Kind, kind_text, kind-back}
use Rattle.match_cli.specs.Arguments.{command_of}
use Rattle.match_cli.specs.declared.command.Command.{Command}
use Rattle.match_cli.specs.declared.command.Command.TheVariants.{Check, Solve, Trial}
use Rattle.match_cli.specs.Commands.{limit_of, given}
use Rattle.match_cli.specs.Runs.{left_by}

-- a command that reads is given what its source tells
given-reading : (command : Command) (limit : ℕ) (source : Option (List ℕ)) → limit_of command ≡ Some limit → given (Some command) source ≡ source
given-reading (Check kind) limit source reads = refl
given-reading (Solve kind detail) limit source reads = refl
given-reading (Trial kind start n m) limit source reads = absurd cc

pub given_source : (words : List (List ℕ)) (command : Command) (limit : ℕ) (source : Option (List ℕ)) → command_of words ≡ Some command → limit_of command ≡ Some limit →
    given (command_of words) source ≡ source
given_source words command limit source taken reads = rw taken (given-reading command limit source reads)

-- a command that reads nothing is given nothing
pub left-reading : (command : Command) (limit : ℕ) (bytes : List ℕ) → limit_of command ≡ Some limit → left_by command bytes ≡ []
left-reading (Check kind) limit bytes reads = refl
left-reading (Solve kind detail) limit bytes reads = refl
left-reading (Trial kind start n m) limit bytes reads = absurd cc

-- `check` and the name of a kind are its command
pub check_named : (kind : Kind) (name : List ℕ) → command_of (name ∷ codes "check" ∷ kind_text kind ∷ []) ≡ Some (Check kind)
check_named kind name = ap (option_map (λ (k : Kind). Check k)) (kind-back kind)
