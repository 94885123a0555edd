-- The degrees of all vertices, in the order of their numbers.
use Rattle.std.specs.Prelude.{◌≡◌, ℕ, ◌+◌, ◌<◌, List, length, slice_index}
use Rattle.graph_theory.specs.Graph.{degree}
use Rattle.mb_problem.specs.Network.{Network, vertices, graph_of}

-- at place k the degree of vertex k + 1
pub record AreDegrees (i : Network) (counts degrees : List ℕ) : Type 0 where
  pub one_each : length degrees ≡ vertices i
  pub each : (k : ℕ) → k < vertices i → slice_index degrees k ≡ degree (graph_of i) counts (k + 1)
