-- Where nothing was counted, and what a search counts at most.
use Rattle.certificates.proofs.Common.{◌≡◌, ℕ, ◌+◌, ◌*◌, ◌≤◌, List, Some, Result, Ok, Err, sym, subst, arith, mul-le-mul, IfOk, same_Some, Kind, Network, size_of}
use Rattle.certificates.proofs.Common.{Size, IsWithinLimits, searches_of}
use Rattle.mwpm_engine.specs.Solutions.{most_steps}
use Rattle.dimacs_read.proofs.ReadingLemmas.{one_instance}
use Rattle.solve_answers.specs.declared.detail.Detail.{Detail}
use Rattle.match_cli.specs.declared.command.Command.{Command}
use Rattle.match_cli.specs.declared.command.Command.TheVariants.{Solve, Trial}
use Rattle.inst_gen.specs.Made.{made}
use Rattle.check_text.specs.declared.status.Status.{Status}
use Rattle.check_text.specs.declared.status.Status.TheVariants.{Done}
use Rattle.check_text.specs.declared.output.Output.{Output}
use Rattle.match_cli.specs.Commands.{kind_of}
use Rattle.check_text.specs.Answers.{instance_part, InputHolds}
use Rattle.match_cli.specs.Answers.{HasInstance}
use Rattle.match_cli.specs.Counts.{largest, CountsSearch, CountsSteps, CountsAnswer, CountsInstance}

-- ---- a search

-- within the limits a search counts no more than at the limits
pub within_limits : (size : Size) (searches before after : ℕ) → IsWithinLimits size → after ≤ before + searches * most_steps size → after ≤ before + searches * most_steps largest
within_limits size searches before after fits counted =
    let vertices : size.vertices + 1 ≤ largest.vertices + 1 = omega (arith, fits.vertices) in
    let phases : 3 * size.vertices + 2 ≤ 3 * largest.vertices + 2 = omega (arith, fits.vertices) in
    let edges : size.edges + 1 ≤ largest.edges + 1 = omega (arith, fits.edges) in
    let less : most_steps size ≤ most_steps largest = mul-le-mul (mul-le-mul vertices phases) edges in
    let all : searches * most_steps size ≤ searches * most_steps largest = mul-le-mul (let same : searches ≤ searches = omega arith in same) less in
    omega (arith, counted, all)

-- a search that was made counts as its command does
pub done_counts : (command : Command) (before after : ℕ) {E : Type 0} (r : Result Output E) → IfOk r (λ a. a.status ≡ Done) → CountsSearch (Some command) before after →
    CountsAnswer command before after r
done_counts command before after (Ok a) done counted = subst (λ (s : Status). CountsSteps (Some command) before after s) (sym done) counted
done_counts command before after (Err e) done counted = counted

-- ---- the instance of a command

abbrev CountsFor : Command → Network → ℕ → ℕ → Type 0
CountsFor command i before after = after ≤ before + searches_of (kind_of command) * most_steps (size_of (kind_of command) i)

-- an input holds one instance
pub counted_for : (kind : Kind) (detail : Detail) (bytes : List ℕ) (j : Network) (before after : ℕ) → InputHolds kind bytes j →
    after ≤ before + searches_of kind * most_steps (size_of kind j) → CountsInstance (Some (Solve kind detail)) bytes before after
counted_for kind detail bytes j before after held counted c i is holds =
    let same : Solve kind detail ≡ c = same_Some (Solve kind detail) c is in
    let here : InputHolds kind bytes i = subst (λ (c : Command). HasInstance c bytes i) (sym same) holds in
    subst (λ (c : Command). CountsFor c i before after) same
    (subst (λ (n : Network). CountsFor (Solve kind detail) n before after) (one_instance kind (instance_part bytes) j i held here) counted)

-- a trial makes one instance
pub trial_counted_for : (kind : Kind) (start n m : ℕ) (bytes : List ℕ) (before after : ℕ) → after ≤ before + searches_of kind * most_steps (size_of kind (made kind start n m)) →
    CountsInstance (Some (Trial kind start n m)) bytes before after
trial_counted_for kind start n m bytes before after counted c i is holds =
    let same : Trial kind start n m ≡ c = same_Some (Trial kind start n m) c is in
    let here : i ≡ made kind start n m = subst (λ (c : Command). HasInstance c bytes i) (sym same) holds in
    subst (λ (c : Command). CountsFor c i before after) same (subst (λ (j : Network). CountsFor (Trial kind start n m) j before after) (sym here) counted)
