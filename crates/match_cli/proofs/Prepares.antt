-- What the bytes that were read decide is the answer to the source's bytes.
use Rattle.graph_theory.proofs.Common.{◌≡◌, ℕ, ◌+◌, ◌<◌, ◌≤◌, List, [], ◌++◌, length, Option, Some, None, sym, ap, subst, ◌∙◌, arith, Consumes, IsAtEnd, Vec}
use Rattle.graph_theory.proofs.Common.{Result, Ok, Err, codes, drop, IfSome, IfOk, IfErr, drop_at, same_Some}
use Rattle.mb_base.specs.Streams.{ReadsAll}
use Rattle.mb_base.specs.declared.whole.ReadAll.{ReadAll}
use Rattle.certificates.proofs.Common.{append-nil, length-append}
use Rattle.match_cli.specs.declared.command.Command.{Command}
use Rattle.match_cli.specs.Arguments.{command_of}
use Rattle.check_text.specs.declared.output.Output.{Output}
use Rattle.match_cli.specs.declared.program.Failure.{Failure}
use Rattle.match_cli.specs.Prepared.{Prepares, Readies}
use Rattle.check_text.specs.declared.status.Status.{Status}
use Rattle.check_text.specs.declared.status.Status.TheVariants.{Done, Rejected, Usage, Malformed, TooLarge, TooLong, ReadFault, WriteFault, OutOfMemory}
use Rattle.match_cli.specs.Commands.{limit_of, ReadsUpTo, given}
use Rattle.match_cli.specs.declared.command.Command.TheVariants.{Check, Solve, Trial}
use Rattle.match_cli.specs.Counts.{CountsInstance, CountsSource}
use Rattle.match_cli.specs.Answers.{Gives, Out}
use Rattle.match_cli.specs.Runs.{IsAnswer, IsWritten, left_by, Spends}
use Rattle.match_cli.proofs.Decided.{decided}
use Rattle.match_cli.proofs.CommandLines.{given_source, left-reading}
use Rattle.mb_base.specs.declared.whole.ReadAll.TheVariants as ending
use Rattle.match_cli.specs.declared.program.Failure.TheVariants as stop

-- all bytes were read
all_read : (xs ys bytes : List ℕ) → xs ≡ bytes ++ ys → ys ≡ [] → bytes ≡ xs
all_read xs ys bytes e nil = sym (e ∙ ap (λ l. bytes ++ l) nil ∙ append-nil bytes)

-- ---- no input within its limit is too long

within_limit : (command : Command) (limit : ℕ) (bytes out : List ℕ) → limit_of command ≡ Some limit → length bytes ≤ limit → Gives command bytes out TooLong → ⊥
within_limit command limit bytes out reads fits h =
    let same : h.0 ≡ limit = same_Some h.0 limit (sym h.1 ∙ reads) in
    omega (arith, same, fits, h.2)

-- ---- what a command decided on

abbrev Says : List (List ℕ) → List ℕ → List ℕ → Status → Type 0
Says words bytes out status = (command : Command) × (command_of words ≡ Some command) × Gives command bytes out status

abbrev Leaves : List (List ℕ) → List ℕ → Option (List ℕ) → Type 0
Leaves words bytes left = (command : Command) × (command_of words ≡ Some command) × (left ≡ Some (left_by command bytes))

abbrev IsCommanded : List (List ℕ) → Option (List ℕ) → Option (List ℕ) → List ℕ → Status → Type 0
IsCommanded words before after out status = IfSome (given (command_of words) before) (λ bytes. Says words bytes out status) × IfSome before (λ bytes. Leaves words bytes after)

by_status : (words : List (List ℕ)) (command : Command) (bytes out : List ℕ) (before after : Option (List ℕ)) (status : Status) → Gives command bytes out status →
    (Gives command bytes out TooLong → ⊥) → IsCommanded words before after out status → IsWritten status × IsAnswer words before after out status
by_status words command bytes out before after Done h short is = (tt, is)
by_status words command bytes out before after Rejected h short is = (tt, is)
by_status words command bytes out before after Malformed h short is = (tt, is)
by_status words command bytes out before after TooLarge h short is = (tt, is)
by_status words command bytes out before after Usage h short is = absurd (decided command bytes out Usage h.1)
by_status words command bytes out before after TooLong h short is = absurd (short h)
by_status words command bytes out before after ReadFault h short is = absurd (decided command bytes out ReadFault h.1)
by_status words command bytes out before after WriteFault h short is = absurd (decided command bytes out WriteFault h.1)
by_status words command bytes out before after OutOfMemory h short is = absurd (decided command bytes out OutOfMemory h.1)

-- a command that reads: all bytes of the source were read
module _ (words : List (List ℕ)) (command : Command) (limit : ℕ) (out bytes : List ℕ) (taken : command_of words ≡ Some command) (reads : limit_of command ≡ Some limit)
    (fits : length bytes ≤ limit) where
  says : (before after : Option (List ℕ)) (status : Status) → Consumes before after bytes → IsAtEnd after → Gives command bytes out status → IfSome before (λ b. Says words b out status)
  says None after status consumed end h = tt
  says (Some xs) None status consumed end h = absurd consumed
  says (Some xs) (Some ys) status consumed end h =
      subst (λ (b : List ℕ). Says words b out status) (all_read xs ys bytes consumed end) (command, taken, h)

  leaves : (before after : Option (List ℕ)) → Consumes before after bytes → IsAtEnd after → IfSome before (λ b. Leaves words b after)
  leaves None after consumed end = tt
  leaves (Some xs) None consumed end = absurd consumed
  leaves (Some xs) (Some ys) consumed end = (command, taken, ap (λ l. Some l) (end ∙ sym (left-reading command limit xs reads)))

  pub is_answer : (before after : Option (List ℕ)) (status : Status) → Consumes before after bytes → IsAtEnd after → Gives command bytes out status →
      IsWritten status × IsAnswer words before after out status
  is_answer before after status consumed end h =
      let said : IfSome (given (command_of words) before) (λ b. Says words b out status) =
      subst (λ (o : Option (List ℕ)). IfSome o (λ b. Says words b out status)) (sym (given_source words command limit before taken reads)) (says before after status consumed end h) in
      by_status words command bytes out before after status h (within_limit command limit bytes out reads fits) (said, leaves before after consumed end)

  counted-in : (before after : Option (List ℕ)) (old new : ℕ) → Consumes before after bytes → IsAtEnd after → CountsInstance (Some command) bytes old new →
      IfSome before (λ b. CountsInstance (command_of words) b old new)
  counted-in None after old new consumed end h = tt
  counted-in (Some xs) None old new consumed end h = absurd consumed
  counted-in (Some xs) (Some ys) old new consumed end h =
      subst (λ (o : Option Command). CountsInstance o xs old new) (sym taken) (subst (λ (b : List ℕ). CountsInstance (Some command) b old new) (all_read xs ys bytes consumed end) h)

  pub counted-reading : (before after : Option (List ℕ)) (old new : ℕ) → Consumes before after bytes → IsAtEnd after → CountsInstance (Some command) bytes old new →
      CountsSource words before old new
  counted-reading before after old new consumed end h =
      subst (λ (o : Option (List ℕ)). IfSome o (λ b. CountsInstance (command_of words) b old new)) (sym (given_source words command limit before taken reads))
      (counted-in before after old new consumed end h)

-- where nothing is counted, and where nothing is read

some-holds : {A : Type 0} (o : Option A) (P : A → Type 0) → ((x : A) → P x) → IfSome o P
some-holds None P all = tt
some-holds (Some x) P all = all x

pub none-counted : (words : List (List ℕ)) (source : Option (List ℕ)) (steps : ℕ) → CountsSource words source steps steps
none-counted words source steps = some-holds (given (command_of words) source) (λ bytes. CountsInstance (command_of words) bytes steps steps) (λ bytes c i e has. omega arith)

counted-by : (command : Command) (source : Option (List ℕ)) (old new : ℕ) → limit_of command ≡ None → CountsInstance (Some command) [] old new →
    IfSome (given (Some command) source) (λ bytes. CountsInstance (Some command) bytes old new)
counted-by (Check kind) source old new unread h = absurd cc
counted-by (Solve kind detail) source old new unread h = absurd cc
counted-by (Trial kind start n m) source old new unread h = h

pub counted-unread : (words : List (List ℕ)) (command : Command) (source : Option (List ℕ)) (bytes : List ℕ) (old new : ℕ) → command_of words ≡ Some command →
    limit_of command ≡ None →
    bytes ≡ [] → CountsInstance (Some command) bytes old new → CountsSource words source old new
counted-unread words command source bytes old new taken unread nothing h =
    subst (λ (o : Option Command). IfSome (given o source) (λ b. CountsInstance o b old new)) (sym taken)
    (counted-by command source old new unread (subst (λ (b : List ℕ). CountsInstance (Some command) b old new) nothing h))

-- a command is decided on, or memory is wanting
pub answered_reading : (words : List (List ℕ)) (command : Command) (limit : ℕ) (bytes : List ℕ) (before after : Option (List ℕ)) → command_of words ≡ Some command →
    limit_of command ≡ Some limit → length bytes ≤ limit → Consumes before after bytes → IsAtEnd after → (r : Result Output Failure) → IfOk r (λ a. Gives command bytes a.text.items a.status)
    →
    IfErr r (λ s. s ≡ stop.OutOfMemory) → Prepares words before after r
answered_reading words command limit bytes before after taken reads fits consumed end (Ok a) h memory =
    is_answer words command limit a.text.items bytes taken reads fits before after a.status consumed end h
answered_reading words command limit bytes before after taken reads fits consumed end (Err stop.ReadFault) h memory = absurd cc
answered_reading words command limit bytes before after taken reads fits consumed end (Err stop.OutOfMemory) h memory = tt

-- ---- input past the limit

long_input : (limit : ℕ) (xs ys bytes : List ℕ) → xs ≡ bytes ++ ys → length bytes ≡ limit + 1 → (limit < length xs) × (ys ≡ drop (limit + 1) xs)
long_input limit xs ys bytes e size =
    let sum = length-append bytes ys in
    let whole = ap length e in
    (omega (arith, sum, whole, size), sym (ap (drop (limit + 1)) e ∙ drop_at bytes ys (limit + 1) size))

long_answer : (words : List (List ℕ)) (limit : ℕ) (before after : Option (List ℕ)) (out : List ℕ) → ReadsUpTo words limit → out ≡ codes "s TOOLONG\n" →
    ReadsAll limit before after (Err ending.TooLong) → IfSome before (λ bytes. Out words bytes out TooLong) × IfSome before (λ bytes. Spends words bytes after TooLong)
long_answer words limit None after out reads is h = (tt, tt)
long_answer words limit (Some xs) None out reads is h = absurd h.2
long_answer words limit (Some xs) (Some ys) out reads is h =
    let long = long_input limit xs ys h.0 h.2 h.1 in
    ((reads.0, reads.1, (limit, reads.2, long.0, is)), (limit, reads, ap (λ l. Some l) long.1))

long_given : (words : List (List ℕ)) (limit : ℕ) (before after : Option (List ℕ)) (out : List ℕ) → ReadsUpTo words limit → out ≡ codes "s TOOLONG\n" →
    ReadsAll limit before after (Err ending.TooLong) → IsAnswer words before after out TooLong
long_given words limit before after out reads is h =
    let long = long_answer words limit before after out reads is h in
    (subst (λ (o : Option (List ℕ)). IfSome o (λ bytes. Out words bytes out TooLong)) (sym (given_source words reads.0 limit before reads.1 reads.2)) long.0, long.1)

long_ready : (words : List (List ℕ)) (limit : ℕ) (before after : Option (List ℕ)) → ReadsUpTo words limit → ReadsAll limit before after (Err ending.TooLong) → (r : Result Output Failure) →
    Readies (codes "s TOOLONG\n") TooLong r → Prepares words before after r
long_ready words limit before after reads h (Ok a) is =
    (subst IsWritten (sym is.1) tt, subst (λ (s : Status). IsAnswer words before after a.text.items s) (sym is.1) (long_given words limit before after a.text.items reads is.0 h))
long_ready words limit before after reads h (Err stop.ReadFault) is = absurd is
long_ready words limit before after reads h (Err stop.OutOfMemory) is = tt

pub too_long : (words : List (List ℕ)) (limit : ℕ) (before after : Option (List ℕ)) → ReadsUpTo words limit → (read : Result (Vec ℕ) ReadAll) (e : ReadAll) → read ≡ Err e →
    e ≡ ending.TooLong → ReadsAll limit before after read → (r : Result Output Failure) → Readies (codes "s TOOLONG\n") TooLong r → Prepares words before after r
too_long words limit before after reads read e fails is h r readied =
    long_ready words limit before after reads (subst (λ (x : Result (Vec ℕ) ReadAll). ReadsAll limit before after x) (fails ∙ ap (λ x. Err x) is) h) r readied
