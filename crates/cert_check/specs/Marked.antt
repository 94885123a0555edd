-- Edges of an instance whose ends are marked.
use Rattle.std.specs.Prelude.{◌≡◌, ℕ, ◌-◌, ◌<◌, Bool, false, List, length, slice_index_or}
use Rattle.mb_problem.specs.Network.{Network, instance_edge_at}

-- whether vertex v is marked
abbrev pub mark_of : List Bool → ℕ → Bool
mark_of marks v = slice_index_or marks (v - 1) false

-- both ends of each edge are marked, or none
abbrev pub AgreeAtEnds : Network → List Bool → Type 0
AgreeAtEnds i marks = (k : ℕ) → k < length i.edges
    → mark_of marks (instance_edge_at i k).u ≡ mark_of marks (instance_edge_at i k).v

-- the first end of some edge is marked, or is not, as wanted
abbrev pub HasEdgeMarked : Network → List Bool → Bool → Type 0
HasEdgeMarked i marks wanted =
    (k : ℕ) × (k < length i.edges) × (mark_of marks (instance_edge_at i k).u ≡ wanted)
