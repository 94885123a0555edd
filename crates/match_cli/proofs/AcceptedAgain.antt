-- What `solve` wrote in full is accepted by `check` where it follows the input.
use Rattle.certificates.proofs.Common.{◌≡◌, ℕ, ◌≤◌, false, List, [], ◌∷◌, ◌++◌, length, Option, None, Some, refl, sym, subst, ◌∙◌, arith, IfSome, codes}
use Rattle.certificates.proofs.Common.{length-append, append_cancel_left, same_Some, IsWithinLimits, Extends, Kind, Network, size_of, Document, document_text}
use Rattle.solve_answers.specs.declared.detail.Detail.TheVariants.{Full}
use Rattle.solve_answers.proofs.Short.{limit-most}
use Rattle.check_text.specs.declared.status.Status.{Status}
use Rattle.check_text.specs.declared.status.Status.TheVariants.{Done, Rejected, Usage, Malformed, TooLarge, TooLong, ReadFault, WriteFault, OutOfMemory}
use Rattle.check_text.proofs.AcceptedBehind.{accepts_both}
use Rattle.match_cli.specs.declared.command.Command.{Command}
use Rattle.match_cli.specs.declared.command.Command.TheVariants.{Check, Solve}
use Rattle.match_cli.specs.Arguments.{command_of}
use Rattle.match_cli.specs.declared.limits.TheConstants.{SOLVE_BYTE_LIMIT}
use Rattle.match_cli.specs.Commands.{given}
use Rattle.match_cli.specs.Solving.{Solves}
use Rattle.match_cli.specs.Answers.{HoldsAlone, Gives, Out, DecidesSolve}
use Rattle.match_cli.specs.Runs.{IsAnswer, EndsLine, IsAcceptedBehind, IsAcceptedAgain}
use Rattle.match_cli.proofs.CommandLines.{check_named}
use Rattle.match_cli.proofs.SolvedNumbers.{kept}

abbrev AcceptsBehind : Kind → List ℕ → List ℕ → Type 0
AcceptsBehind kind bytes written = Gives (Check kind) (bytes ++ written) (codes "s ACCEPTED\n") Done

-- the answer of `check` to an input that ends its last line, and a full document of its instance behind it
accepts_text : (kind : Kind) (front : List ℕ) (i : Network) (d : Document) → length (front ++ 10 ∷ []) ≤ SOLVE_BYTE_LIMIT → HoldsAlone kind (front ++ 10 ∷ []) i →
    IsWithinLimits (size_of kind i) → Solves kind i d → AcceptsBehind kind (front ++ 10 ∷ []) (document_text d false)
accepts_text kind front i d short alone fits solves =
    let input = front ++ 10 ∷ [] in
    let sum = length-append input (document_text d false) in
    let small = solves.size_limit in
    let most = limit-most kind in
    let read = kept kind i d solves.network fits solves.proved solves.size_limit in
    let accepts = accepts_both kind front i d alone.holds alone.alone read fits solves.proved solves.truth in
    (omega arith, (i, accepts.0, accepts.1, refl))

solved_is_accepted : (kind : Kind) (bytes out : List ℕ) → length bytes ≤ SOLVE_BYTE_LIMIT → EndsLine bytes → DecidesSolve kind Full bytes out Done → AcceptsBehind kind bytes out
solved_is_accepted kind bytes out short ends h =
    let front = ends.0 in
    let i = h.0 in
    let d = h.1 in
    let input : front ++ 10 ∷ [] ≡ bytes = sym ends.1 in
    let alone : HoldsAlone kind (front ++ 10 ∷ []) i = subst (λ (b : List ℕ). HoldsAlone kind b i) ends.1 h.2 in
    let within : length (front ++ 10 ∷ []) ≤ SOLVE_BYTE_LIMIT = subst (λ (b : List ℕ). length b ≤ SOLVE_BYTE_LIMIT) ends.1 short in
    let accepted : AcceptsBehind kind (front ++ 10 ∷ []) (document_text d false) = accepts_text kind front i d within alone h.3 h.4 in
    subst (λ (b : List ℕ). AcceptsBehind kind b out) input (subst (λ (o : List ℕ). AcceptsBehind kind (front ++ 10 ∷ []) o) (sym h.5) accepted)

accepted_done : (command : Command) (bytes out : List ℕ) → Gives command bytes out Done → IsAcceptedBehind command bytes out Done
accepted_done command bytes out h kind is ends =
    let gives : Gives (Solve kind Full) bytes out Done = subst (λ (c : Command). Gives c bytes out Done) is h in
    solved_is_accepted kind bytes out gives.0 ends gives.1

pub accepted_behind : (command : Command) (bytes out : List ℕ) (status : Status) → Gives command bytes out status → IsAcceptedBehind command bytes out status
accepted_behind command bytes out Done h = accepted_done command bytes out h
accepted_behind command bytes out Rejected h = tt
accepted_behind command bytes out Usage h = tt
accepted_behind command bytes out Malformed h = tt
accepted_behind command bytes out TooLarge h = tt
accepted_behind command bytes out TooLong h = tt
accepted_behind command bytes out ReadFault h = tt
accepted_behind command bytes out WriteFault h = tt
accepted_behind command bytes out OutOfMemory h = tt

-- ---- of a run

again_of : (words : List (List ℕ)) (before after taken_before taken_after : Option (List ℕ)) (out : List ℕ) → IsAnswer words before after out Done
    → Extends taken_before taken_after out →
    IsAcceptedAgain words before taken_before taken_after Done
again_of words None after taken_before taken_after out h extends = tt
again_of words (Some bytes) after None taken_after out h extends = tt
again_of words (Some bytes) after (Some xs) None out h extends = tt
again_of words (Some bytes) after (Some xs) (Some ys) out h extends = λ kind written solves ends is name.
    (let source : given (command_of words) (Some bytes) ≡ Some bytes = rw solves refl in
    let says : Out words bytes out Done = subst (λ (o : Option (List ℕ)). IfSome o (λ (b : List ℕ). Out words b out Done)) source h.0 in
    let named : says.0 ≡ Solve kind Full = same_Some says.0 (Solve kind Full) (sym says.1 ∙ solves) in
    let same : out ≡ written = append_cancel_left xs out written (sym extends ∙ is) in
    let accepted : AcceptsBehind kind bytes out = accepted_done says.0 bytes out says.2 kind named ends in
    (Check kind, check_named kind name, subst (λ (o : List ℕ). AcceptsBehind kind bytes o) same accepted))

pub accepted_again : (words : List (List ℕ)) (before after taken_before taken_after : Option (List ℕ)) (out : List ℕ) (status : Status) → IsAnswer words before after out status →
    Extends taken_before taken_after out → IsAcceptedAgain words before taken_before taken_after status
accepted_again words before after taken_before taken_after out Done h extends = again_of words before after taken_before taken_after out h extends
accepted_again words before after taken_before taken_after out Rejected h extends = tt
accepted_again words before after taken_before taken_after out Usage h extends = tt
accepted_again words before after taken_before taken_after out Malformed h extends = tt
accepted_again words before after taken_before taken_after out TooLarge h extends = tt
accepted_again words before after taken_before taken_after out TooLong h extends = tt
accepted_again words before after taken_before taken_after out ReadFault h extends = tt
accepted_again words before after taken_before taken_after out WriteFault h extends = tt
accepted_again words before after taken_before taken_after out OutOfMemory h extends = tt
