-- Closed walks of a postman (chapter 29).
use Rattle.std.specs.Prelude.{◌≡◌, ℕ, ◌+◌, ◌≤◌, ◌<◌, true, List, length, if◌then◌else◌}
use Rattle.graph_theory.specs.Graph.{Multigraph, edge_at, touches}
use Rattle.graph_theory.specs.Parts.{holds}
use Rattle.mb_problem.specs.Network.{Network}
use Rattle.gadget_base.specs.Listed.{times}

-- v is the least vertex that an edge meets
pub record IsLeastMet (g : Multigraph) (v : ℕ) : Type 0 where
  pub met : (k : ℕ) × (k < length g.edges) × (touches (edge_at g k) v ≡ true)
  pub least : (k : ℕ) → k < length g.edges → (v ≤ (edge_at g k).u) × (v ≤ (edge_at g k).v)

-- each edge once, those of the join twice
abbrev pub UsesOnceAndJoinTwice : Network → List ℕ → List ℕ → Type 0
UsesOnceAndJoinTwice i join walk =
    (k : ℕ) → k < length i.edges → times walk (k + 1) ≡ 1 + (if holds join (k + 1) then 1 else 0)
