-- Answers to sets of terminals (Schrijver, Combinatorial Optimization, volume A, chapter 29).
use Rattle.std.specs.Prelude.{◌≡◌, ℕ, ◌||◌, nat_lt, if◌then◌else◌, List, [], ◌∷◌}
use Rattle.std.specs.Prelude.{Option, None, Some}
use Rattle.graph_theory.specs.declared.limits.TheConstants.{GRAPH_VERTEX_LIMIT, GRAPH_EDGE_LIMIT}
use Rattle.graph_theory.specs.Limits.{Size, IsWithinLimits}
use Rattle.graph_theory.specs.Sums.{sum_to}
use Rattle.graph_theory.specs.Walk.{walk_weight}
use Rattle.mb_problem.specs.declared.answer.Parity.TheVariants.{Values}
use Rattle.mb_problem.specs.Joins.{HasJoin}
use Rattle.mb_problem.specs.Network.{Network, vertices, graph_of}
use Rattle.mwpm_engine.specs.Solutions.{most_steps}
use Rattle.join_check.specs.Least.{IsLeastJoin}
use Rattle.array_joins.specs.declared.outcome.TerminalFault.{TerminalFault}
use Rattle.array_joins.specs.declared.outcome.SetOutcome.{SetOutcome}
use Rattle.array_joins.specs.declared.outcome.SetOutcome.TheVariants.{Joined, NoJoin, Faulty}
use Rattle.array_joins.specs.declared.outcome.SetOutcome.TheVariants.{TooLarge}
use Rattle.array_joins.specs.Sets.{set_at, set_count}
use Rattle.array_joins.specs.Terminals.{first_fault, network_with, join_size}

-- The answer if this is the first fault of the terminals, and the instance has the value 1 at each
-- of them and 0 elsewhere: a join of minimum weight with its weight; that there is none; the fault;
-- or that the graph of ports is past a limit.
abbrev pub AnswersMarked : Option TerminalFault → Network → SetOutcome → Type 0
AnswersMarked fault i (Joined join weight) = (fault ≡ None) × IsWithinLimits (join_size i)
    × IsLeastJoin Values i join.edges × (weight ≡ walk_weight (graph_of i) join.edges)
AnswersMarked fault i NoJoin = (fault ≡ None) × IsWithinLimits (join_size i) × ¬ HasJoin Values i
AnswersMarked fault i (Faulty first) = fault ≡ Some first
AnswersMarked fault i TooLarge = (fault ≡ None) × ¬ IsWithinLimits (join_size i)

-- the answer to a set of terminals, on the graph of an instance
abbrev pub AnswersSet : Network → List ℕ → SetOutcome → Type 0
AnswersSet i terminals outcome =
    AnswersMarked (first_fault (vertices i) terminals) (network_with i terminals) outcome

-- an answer to each set, in their order
abbrev pub AnswersEach : Network → List (List ℕ) → List SetOutcome → Type 0
AnswersEach i [] [] = Unit {0}
AnswersEach i [] (outcome ∷ outcomes) = ⊥
AnswersEach i (terminals ∷ sets) [] = ⊥
AnswersEach i (terminals ∷ sets) (outcome ∷ outcomes) =
    AnswersSet i terminals outcome × AnswersEach i sets outcomes

-- the steps of one search on a graph of this size, and none past the limits
abbrev pub search_steps : Size → ℕ
search_steps size =
    if nat_lt GRAPH_VERTEX_LIMIT size.vertices || nat_lt GRAPH_EDGE_LIMIT size.edges then 0
    else most_steps size

-- the steps of one search; none for terminals with a fault, or past the limits
abbrev pub steps_by : Option TerminalFault → Network → ℕ
steps_by None i = search_steps (join_size i)
steps_by (Some first) i = 0

-- the steps for a set of terminals
abbrev pub set_steps : Network → List ℕ → ℕ
set_steps i terminals = steps_by (first_fault (vertices i) terminals) (network_with i terminals)

-- the steps for the sets before an index: at most one search for each
abbrev pub steps_before : Network → List ℕ → List ℕ → ℕ → ℕ
steps_before i starts terminals k = sum_to (λ j. set_steps i (set_at starts terminals j)) k

-- the steps for all sets
abbrev pub all_steps : Network → List ℕ → List ℕ → ℕ
all_steps i starts terminals = steps_before i starts terminals (set_count starts)
