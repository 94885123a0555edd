-- A list of numbers of edges as counts.
use Rattle.std.specs.Prelude.{◌≡◌, ℕ, ◌+◌, ◌<◌, ◌==◌, List, length, slice_index, All, count_by}
use Rattle.graph_theory.specs.Graph.{Multigraph, IsEdgeNumber}
use Rattle.gadget_base.specs.Blocks.{tabled}

-- how often a number is listed
abbrev pub times : List ℕ → ℕ → ℕ
times es e = count_by (λ x. x == e) es

-- how often each edge is listed
abbrev pub times_each : Multigraph → List ℕ → List ℕ
times_each g es = tabled (λ k. times es (k + 1)) (length g.edges)

-- numbers of edges, each as often as its edge is counted
pub record ListsCounts (g : Multigraph) (counts es : List ℕ) : Type 0 where
  pub numbers : All (IsEdgeNumber g) es
  pub each : (k : ℕ) → k < length g.edges → times es (k + 1) ≡ slice_index counts k
