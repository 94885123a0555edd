-- Matchings with a degree for each vertex and a limit on each edge (Schrijver, Combinatorial
-- Optimization, volume A, chapters 32 and 33): by capacities, or with each edge used at most once.
use Rattle.std.specs.Prelude.{ℕ, min, Bool, if◌then◌else◌}
use Rattle.mb_problem.specs.declared.gadget.Capacities.{Capacities}
use Rattle.mb_problem.specs.declared.gadget.Capacities.TheVariants.{Own, Unit as Once}
use Rattle.mb_problem.specs.declared.kind.Kind.{Kind}
use Rattle.mb_problem.specs.declared.kind.Kind.TheVariants.{CapMatch, FFactor}
use Rattle.mb_problem.specs.declared.instance.InstanceEdge.{InstanceEdge}
use Rattle.mb_problem.specs.Network.{Network, value_of}
use Rattle.mb_problem.specs.Size.{bounded, limit_by, room_of, unit_room_of}

-- factors where each edge is used at most once, else matchings with capacities
abbrev pub capped_kind : Bool → Kind
capped_kind unit = if unit then FFactor else CapMatch

-- what limits the use of an edge
abbrev pub capacities_by : Bool → Capacities
capacities_by unit = if unit then Once else Own

-- how often the edge at a place can be used
abbrev pub capped_room : Bool → Network → ℕ → ℕ
capped_room unit i = if unit then unit_room_of i else room_of i

-- how often an edge can be used
abbrev pub room_at : Bool → Network → InstanceEdge → ℕ
room_at unit i e = bounded (limit_by (capacities_by unit) e) (min (value_of i e.u) (value_of i e.v))
