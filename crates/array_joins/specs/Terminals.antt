-- A set of terminals: what can be wrong with it, and the instance that it makes of a graph.
use Rattle.std.specs.Prelude.{◌≡◌, ℕ, ◌+◌, not, if◌then◌else◌, List, length, take}
use Rattle.std.specs.Prelude.{slice_index, Option, None, Some}
use Rattle.std.specs.Option.{option_map}
use Rattle.graph_theory.specs.Parts.{holds}
use Rattle.graph_theory.specs.Limits.{Size}
use Rattle.mb_problem.specs.declared.answer.Parity.TheVariants.{Values}
use Rattle.mb_problem.specs.Network.{Network, vertices}
use Rattle.mb_problem.specs.Size.{ports_size, odd_at}
use Rattle.gadget_base.specs.Blocks.{tabled}
use Rattle.array_call.specs.Faults.{is_vertex}
use Rattle.array_joins.specs.declared.outcome.TerminalRule.{TerminalRule}
use Rattle.array_joins.specs.declared.outcome.TerminalRule.TheVariants.{OutOfRange, Repeated}
use Rattle.array_joins.specs.declared.outcome.TerminalFault.{TerminalFault}
use Rattle.array_joins.specs.First.{first_of}

-- the rule that a terminal breaks behind these, of n vertices
abbrev pub terminal_rule : ℕ → List ℕ → ℕ → Option TerminalRule
terminal_rule n before v = if not (is_vertex n v) then Some OutOfRange else
    (if holds before v then Some Repeated else None)

abbrev pub fault : TerminalRule → ℕ → TerminalFault
fault rule index = record { rule = rule; index = index }

-- the fault of the terminal at an index, from 0
abbrev pub terminal_fault : ℕ → List ℕ → ℕ → Option TerminalFault
terminal_fault n terminals k = option_map (λ rule. fault rule k)
    (terminal_rule n (take k terminals) (slice_index terminals k))

-- the first fault of a set of terminals, of n vertices
abbrev pub first_fault : ℕ → List ℕ → Option TerminalFault
first_fault n terminals = first_of (terminal_fault n terminals) (length terminals)

-- the value of the vertex at a place, from 0
abbrev pub mark_at : List ℕ → ℕ → ℕ
mark_at terminals k = if holds terminals (k + 1) then 1 else 0

-- the instance with the value 1 at each terminal and 0 at every other vertex
abbrev pub network_with : Network → List ℕ → Network
network_with i terminals = record i { values = tabled (mark_at terminals) (vertices i) }

-- no vertex is a terminal
abbrev pub HasNoTerminals : Network → Type 0
HasNoTerminals i = i.values ≡ tabled (λ k. 0) (vertices i)

-- the size of the graph of ports for the joins that are odd where the values are
abbrev pub join_size : Network → Size
join_size i = ports_size i (odd_at Values i)
