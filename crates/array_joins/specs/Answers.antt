-- What the call over arrays answers.
use Rattle.std.specs.Prelude.{◌≡◌, ℕ, ◌+◌, ◌≤◌, ℤ, List, [], length, Option, None, Some}
use Rattle.std.specs.Prelude.{Result, Ok, Err}
use Rattle.std.specs.Option.{option_map, option_or}
use Rattle.mb_problem.specs.declared.kind.Kind.TheVariants.{TJoin}
use Rattle.mb_problem.specs.Network.{Network}
use Rattle.array_call.specs.declared.rule.ArrayFault.{ArrayFault}
use Rattle.array_call.specs.declared.rule.ArrayRule.TheVariants.{Starts}
use Rattle.array_call.specs.declared.calling.ArrayAnswer.{ArrayAnswer}
use Rattle.array_call.specs.declared.calling.ArrayStatus.{ArrayStatus}
use Rattle.array_call.specs.declared.calling.ArrayStatus.TheVariants as status
use Rattle.array_call.specs.Arrays.{Arrays, network_of}
use Rattle.array_call.specs.Faults.{array_fault, fault}
use Rattle.array_call.specs.Answers.{fault_numbers}
use Rattle.array_joins.specs.declared.outcome.SetOutcome.{SetOutcome}
use Rattle.array_joins.specs.Sets.{terminal_sets, starts_fault}
use Rattle.array_joins.specs.Outcomes.{AnswersEach, all_steps}
use Rattle.array_joins.specs.Numbers.{numbers_of}

-- the graph of arrays, as an instance without terminals
abbrev pub graph_network : Arrays → Network
graph_network a = network_of TJoin a

-- the first fault of the arrays of a graph, else of `starts`
abbrev pub joins_fault : Arrays → List ℕ → List ℕ → Option ArrayFault
joins_fault a starts terminals = option_or (array_fault TJoin a)
    (option_map (λ index. fault Starts index) (starts_fault starts (length terminals)))

-- The numbers and the status: those of an answer to each set of terminals, or those of the first
-- fault; none if there isn't enough memory.
abbrev pub GivesJoins : Arrays → List ℕ → List ℕ → List ℤ → ArrayStatus → Type 0
GivesJoins a starts terminals numbers status.Done = (joins_fault a starts terminals ≡ None)
    × ((outcomes : List SetOutcome)
    × AnswersEach (graph_network a) (terminal_sets starts terminals) outcomes
    × (numbers ≡ numbers_of outcomes))
GivesJoins a starts terminals numbers status.Rejected = ⊥
GivesJoins a starts terminals numbers status.Malformed = (f : ArrayFault)
    × (joins_fault a starts terminals ≡ Some f) × (numbers ≡ fault_numbers f)
GivesJoins a starts terminals numbers status.TooLarge = ⊥
GivesJoins a starts terminals numbers status.OutOfMemory = numbers ≡ []

-- no more than one search takes for each set, and nothing is counted if there is a fault
abbrev pub CountsJoins : Arrays → List ℕ → List ℕ → ℕ → ℕ → ArrayStatus → Type 0
CountsJoins a starts terminals before after status.Done =
    after ≤ before + all_steps (graph_network a) starts terminals
CountsJoins a starts terminals before after status.Rejected = after ≡ before
CountsJoins a starts terminals before after status.Malformed = after ≡ before
CountsJoins a starts terminals before after status.TooLarge = after ≡ before
CountsJoins a starts terminals before after status.OutOfMemory =
    after ≤ before + all_steps (graph_network a) starts terminals

-- the same, if running out of memory is an error
abbrev pub CountsEnded : {E : Type 0} → Arrays → List ℕ → List ℕ → ℕ → ℕ → Result ArrayAnswer E
    → Type 0
CountsEnded a starts terminals before after (Ok answer) =
    CountsJoins a starts terminals before after answer.status
CountsEnded a starts terminals before after (Err e) =
    after ≤ before + all_steps (graph_network a) starts terminals
