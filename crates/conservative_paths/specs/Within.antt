-- Paths and circuits within a join, and conservative weights (Schrijver, Combinatorial
-- Optimization, volume A, chapter 29).
use Rattle.std.specs.Prelude.{◌≡◌, ℕ, ◌≤◌, pos, ◌<ℤ◌, true, List, length, All}
use Rattle.graph_theory.specs.Graph.{Multigraph}
use Rattle.graph_theory.specs.Parts.{holds}
use Rattle.graph_theory.specs.Walk.{IsWalk, IsCircuit, IsConservative, walk_end, walk_vertices}
use Rattle.graph_theory.specs.Walk.{walk_weight, AllDiffer}
use Rattle.mb_problem.specs.Network.{Network, IsNetwork, graph_of}
use Rattle.mb_problem.specs.Joins.{HasNoNegativeEvenSet}

-- a path within the join: a walk of at least one edge from s to t over edges of the join, that
-- comes to no vertex twice
pub record IsPathWithin (g : Multigraph) (join : List ℕ) (s t start : ℕ) (edges : List ℕ) : Type 0
  where
    pub starts : start ≡ s
    pub walk : IsWalk g s edges
    pub arrives : walk_end g s edges ≡ t
    pub some : 1 ≤ length edges
    pub no_vertex_twice : AllDiffer (walk_vertices g s edges)
    pub within : All (λ e. holds join e ≡ true) edges

-- a circuit within the join that weighs less than 0
pub record IsNegativeCircuitWithin (g : Multigraph) (join : List ℕ) (start : ℕ)
    (edges : List ℕ) : Type 0 where
  pub circuit : IsCircuit g start edges
  pub within : All (λ e. holds join e ≡ true) edges
  pub negative : walk_weight g edges <ℤ pos 0

-- where no even set of edges weighs less than 0 no circuit does: the weights are conservative
abbrev pub EvenSetsDecide : Type 0
EvenSetsDecide = (i : Network) → IsNetwork i → HasNoNegativeEvenSet i → IsConservative (graph_of i)
