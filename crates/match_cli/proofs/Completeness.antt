-- Every input within the limits is answered: no refusal is for it.
use Rattle.certificates.proofs.Common.{◌≡◌, ℕ, ◌≤◌, List, [], length, Option, None, Some, inl, inr, sym, subst, ◌∙◌, arith, IfSome, same_Some, Kind, Network, size_of}
use Rattle.certificates.proofs.Common.{IsWithinLimits}
use Rattle.dimacs_read.specs.declared.rule.Rule.{Rule}
use Rattle.dimacs_read.proofs.ReadingLemmas.{one_instance, no_instance_and_fault}
use Rattle.match_cli.specs.declared.command.Command.{Command}
use Rattle.match_cli.specs.declared.command.Command.TheVariants.{Check, Solve, Trial}
use Rattle.match_cli.specs.Arguments.{command_of}
use Rattle.check_text.specs.declared.status.Status.{Status}
use Rattle.check_text.specs.declared.status.Status.TheVariants.{Done, Rejected, Usage, Malformed, TooLarge, TooLong, ReadFault, WriteFault, OutOfMemory}
use Rattle.match_cli.specs.Commands.{IsShort, given}
use Rattle.check_text.specs.Answers.{instance_part, document_part, InputHolds}
use Rattle.match_cli.specs.Answers.{answer_place, RefusesInput, Answers, Gives, Out}
use Rattle.match_cli.specs.Runs.{IsAnswer, IsInput, MayReject, IsAnswered, IsComplete, Completes}
use Rattle.match_cli.proofs.Decided.{decided}
use Rattle.check_text.proofs.InputParts.{place_none}

no_command : (words : List (List ℕ)) (command : Command) → command_of words ≡ None → command_of words ≡ Some command → ⊥
no_command words command none some = (let e : None ≡ Some command = sym none ∙ some in absurd cc)

not_too_large : (kind : Kind) (bytes : List ℕ) (i j : Network) → InputHolds kind bytes i → IsWithinLimits (size_of kind i) → InputHolds kind bytes j → ¬ IsWithinLimits (size_of kind j) → ⊥
not_too_large kind bytes i j holds fits other past =
    past (subst (λ (n : Network). IsWithinLimits (size_of kind n)) (one_instance kind (instance_part bytes) i j holds other) fits)

no_place : (o : Option ℕ) (k : ℕ) → o ≡ None → o ≡ Some k → ⊥
no_place o k none some = (let e : None ≡ Some k = sym none ∙ some in absurd cc)

not_refused : (kind : Kind) (bytes : List ℕ) (i : Network) (rule : Rule) (line : ℕ) → InputHolds kind bytes i → document_part bytes ≡ [] → RefusesInput kind bytes rule line → ⊥
not_refused kind bytes i rule line holds ends (inl fault) = no_instance_and_fault kind (instance_part bytes) i rule line holds fault
not_refused kind bytes i rule line holds ends (inr rest) = no_place (answer_place bytes) rest.2.0 (place_none bytes ends) rest.2.1

not_malformed : (command : Command) (bytes out : List ℕ) (i : Network) → IsInput command bytes i → Answers command bytes out Malformed → ⊥
not_malformed (Check kind) bytes out i input h = no_instance_and_fault kind (instance_part bytes) i h.0 h.1 input.holds h.2
not_malformed (Solve kind detail) bytes out i input h = not_refused kind bytes i h.0 h.1 input.holds input.ends h.2
not_malformed (Trial kind start n m) bytes out i input h = h

not_large : (command : Command) (bytes out : List ℕ) (i : Network) → IsInput command bytes i → Answers command bytes out TooLarge → ⊥
not_large (Check kind) bytes out i input h = not_too_large kind bytes i h.0 input.holds input.fits h.1 h.2
not_large (Solve kind detail) bytes out i input h = not_too_large kind bytes i h.0 input.holds input.fits h.1.holds h.2
not_large (Trial kind start n m) bytes out i input h = h.0 (subst (λ (j : Network). IsWithinLimits (size_of kind j)) input.holds input.fits)

may_reject : (command : Command) (bytes out : List ℕ) → Answers command bytes out Rejected → MayReject command
may_reject (Check kind) bytes out h = tt
may_reject (Solve kind detail) bytes out h = h
may_reject (Trial kind start n m) bytes out h = h

not_long : (command : Command) (bytes out : List ℕ) → IsShort command bytes → Gives command bytes out TooLong → ⊥
not_long command bytes out short long =
    let fits : length bytes ≤ long.0 = subst (λ (o : Option ℕ). IfSome o (λ most. length bytes ≤ most)) long.1 short in
    omega (arith, fits, long.2)

pub is_complete : (command : Command) (bytes out : List ℕ) (status : Status) → Gives command bytes out status → IsComplete command bytes status
is_complete command bytes out Done h i input = tt
is_complete command bytes out Rejected h i input = may_reject command bytes out h.1
is_complete command bytes out Usage h i input = absurd (decided command bytes out Usage h.1)
is_complete command bytes out Malformed h i input = absurd (not_malformed command bytes out i input h.1)
is_complete command bytes out TooLarge h i input = absurd (not_large command bytes out i input h.1)
is_complete command bytes out TooLong h i input = absurd (not_long command bytes out input.short h)
is_complete command bytes out ReadFault h i input = tt
is_complete command bytes out WriteFault h i input = tt
is_complete command bytes out OutOfMemory h i input = tt

-- ---- of a run

module _ (words : List (List ℕ)) (command : Command) (bytes out : List ℕ) (i : Network) (taken : command_of words ≡ Some command) (input : IsInput command bytes i) where
  as_command : (status : Status) → (other : Command) × (command_of words ≡ Some other) × Gives other bytes out status → IsAnswered command status
  as_command status h =
      let same : h.0 ≡ command = same_Some h.0 command (sym h.1 ∙ taken) in
      is_complete command bytes out status (subst (λ (c : Command). Gives c bytes out status) same h.2) i input

  answered : (status : Status) → Out words bytes out status → IsAnswered command status
  answered Usage h = no_command words command h.0 taken
  answered Done h = as_command Done h
  answered Rejected h = as_command Rejected h
  answered Malformed h = as_command Malformed h
  answered TooLarge h = as_command TooLarge h
  answered TooLong h = as_command TooLong h
  answered ReadFault h = as_command ReadFault h
  answered WriteFault h = as_command WriteFault h
  answered OutOfMemory h = as_command OutOfMemory h

completes_given : (words : List (List ℕ)) (o : Option (List ℕ)) (out : List ℕ) (status : Status) → IfSome o (λ bytes. Out words bytes out status) →
    IfSome o (λ bytes. (command : Command) (i : Network) → command_of words ≡ Some command → IsInput command bytes i → IsAnswered command status)
completes_given words None out status h = tt
completes_given words (Some bytes) out status h = λ command i taken input. answered words command bytes out i taken input status h

pub completes : (words : List (List ℕ)) (before after : Option (List ℕ)) (out : List ℕ) (status : Status) → IsAnswer words before after out status → Completes words before status
completes words before after out status h = completes_given words (given (command_of words) before) out status h.0
