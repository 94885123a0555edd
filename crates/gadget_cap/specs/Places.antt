-- Where the edges stand that stand for an edge of the instance.
use Rattle.std.specs.Prelude.{◌≡◌, ℕ, ◌+◌, ◌*◌, ◌<◌, nat_lt, nat_le, pos, Bool, true, false, ◌&&◌}
use Rattle.std.specs.Prelude.{List, ◌++◌, length, count_by, Option, None, Some}
use Rattle.graph_theory.specs.declared.edge.Edge.{Edge}
use Rattle.graph_theory.specs.Sums.{sum_to}
use Rattle.mb_problem.specs.declared.instance.InstanceEdge.{InstanceEdge}
use Rattle.mb_problem.specs.Network.{Network, value_of}
use Rattle.mb_problem.specs.Size.{value_u, value_v}
use Rattle.gadget_base.specs.Blocks.{rectangle, tabled}
use Rattle.gadget_base.specs.Gadgets.{values_below}

-- the edges that stand for an edge whose gates have `room` vertices and come after `before` others
abbrev pub gates_of : Network → InstanceEdge → ℕ → ℕ → List Edge
gates_of i e before room =
    rectangle (values_below i e.u) (value_of i e.u) before room e.w
    ++ (rectangle before room (before + room) room (pos 0)
    ++ rectangle (before + room) room (values_below i e.v) (value_of i e.v) (pos 0))

-- how many edges stand for edge number k + 1
abbrev pub gate_size : Network → (ℕ → ℕ) → ℕ → ℕ
gate_size i room k = value_u i k * room k + (room k * room k + room k * value_v i k)

-- how many stand for the edges before it
abbrev pub gates_before : Network → (ℕ → ℕ) → ℕ → ℕ
gates_before i room k = sum_to (gate_size i room) k

-- edge number e of the graph leads from a copy of the first end of edge number k + 1 to its first
-- gate
abbrev pub enters : Network → (ℕ → ℕ) → ℕ → ℕ → Bool
enters i room k e = nat_lt (gates_before i room k) e
    && nat_le e (gates_before i room k + value_u i k * room k)

-- the edge, by its place, whose first gate edge number e of the graph leads to, if there is one
abbrev pub IsEntry : Network → (ℕ → ℕ) → ℕ → Option ℕ → Type 0
IsEntry i room e (Some k) = (k < length i.edges) × (enters i room k e ≡ true)
IsEntry i room e None = (k : ℕ) → k < length i.edges → enters i room k e ≡ false

-- how often a listed edge of the graph leads from a copy of the first end of each edge to its first
-- gate
abbrev pub entry_counts : Network → (ℕ → ℕ) → List ℕ → List ℕ
entry_counts i room es = tabled (λ k. count_by (enters i room k) es) (length i.edges)
