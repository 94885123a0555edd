-- The answers to sets of terminals as numbers.
use Rattle.std.specs.Prelude.{ℕ, ◌+◌, ◌*◌, ℤ, pos, List, [], ◌++◌, map}
use Rattle.array_call.specs.Layout.{offsets, all_items}
use Rattle.array_joins.specs.declared.outcome.TerminalRule.{TerminalRule}
use Rattle.array_joins.specs.declared.outcome.TerminalRule.TheVariants.{OutOfRange, Repeated}
use Rattle.array_joins.specs.declared.outcome.SetOutcome.{SetOutcome}
use Rattle.array_joins.specs.declared.outcome.SetOutcome.TheVariants.{Joined, NoJoin, Faulty}
use Rattle.array_joins.specs.declared.outcome.SetOutcome.TheVariants.{TooLarge}

abbrev pub rule_number : TerminalRule → ℤ
rule_number OutOfRange = pos 2
rule_number Repeated = pos 3

-- which answer it is
abbrev pub outcome_number : SetOutcome → ℤ
outcome_number (Joined join weight) = pos 0
outcome_number NoJoin = pos 1
outcome_number (Faulty fault) = rule_number fault.rule
outcome_number TooLarge = pos 4

-- the weight of a join, the index of a faulty terminal within its set, else 0
abbrev pub detail_number : SetOutcome → ℤ
detail_number (Joined join weight) = weight
detail_number NoJoin = pos 0
detail_number (Faulty fault) = pos fault.index
detail_number TooLarge = pos 0

-- the edges of a join
abbrev pub edge_numbers : SetOutcome → List ℤ
edge_numbers (Joined join weight) = map pos join.edges
edge_numbers NoJoin = []
edge_numbers (Faulty fault) = []
edge_numbers TooLarge = []

-- the edges of each answer
abbrev pub edge_lists : List SetOutcome → List (List ℤ)
edge_lists outcomes = map edge_numbers outcomes

-- the number of each answer, its detail, where its edges begin and those of the last end, and the
-- edges of all
abbrev pub numbers_of : List SetOutcome → List ℤ
numbers_of outcomes = map outcome_number outcomes ++ (map detail_number outcomes
    ++ (offsets (edge_lists outcomes) ++ all_items (edge_lists outcomes)))

-- how many numbers there are at most, for so many sets and edges
abbrev pub joins_room : ℕ → ℕ → ℕ
joins_room sets edges = 3 * sets + 2 + sets * edges
