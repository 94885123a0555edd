-- Instances while terminals are marked.
use Rattle.std.specs.Prelude.{ℕ, ◌+◌, ◌-◌, List, slice_index, slice_set, take, Option, None, Some}
use Rattle.std.specs.Prelude.{if◌then◌else◌}
use Rattle.graph_theory.specs.Parts.{holds}
use Rattle.mb_problem.specs.Network.{Network, vertices}
use Rattle.gadget_base.specs.Blocks.{tabled}
use Rattle.array_call.specs.Faults.{is_vertex}
use Rattle.array_joins.specs.declared.outcome.TerminalFault.{TerminalFault}

-- the terminals before the one that has a fault
abbrev pub sound_part : Option TerminalFault → List ℕ → List ℕ
sound_part None terminals = terminals
sound_part (Some fault) terminals = take fault.index terminals

-- the instance with the value 0 at a vertex, if it is one
abbrev pub cleared : Network → ℕ → Network
cleared i v = if is_vertex (vertices i) v
    then record i { values = slice_set i.values (v - 1) 0 } else i

-- what is left of the value at a place, from 0, once these vertices have the value 0
abbrev pub left_at : Network → List ℕ → ℕ → ℕ
left_at i terminals k = if holds terminals (k + 1) then 0 else slice_index i.values k

-- the instance with the value 0 at these vertices
abbrev pub unmarked : Network → List ℕ → Network
unmarked i terminals = record i { values = tabled (left_at i terminals) (vertices i) }
