-- Graphs that have a perfect matching for all to see: of 1 and 2, 3 and 4, and so on.
use Rattle.std.specs.Prelude.{◌≡◌, ℕ, ◌+◌, ◌*◌, ◌<◌, ◌≤◌, length}
use Rattle.graph_theory.specs.Graph.{Multigraph, HasNoLoop, edge_at}
use Rattle.graph_theory.specs.declared.limits.TheConstants.{GRAPH_EDGE_LIMIT}

-- the first edges, so many, are between 1 and 2, 3 and 4, and so on; no edge is a loop
pub record IsPairedUp (twos : ℕ) (g : Multigraph) : Type 0 where
  pub enough : twos ≤ length g.edges
  pub from : (k : ℕ) → k < twos → (edge_at g k).u ≡ 2 * k + 1
  pub to : (k : ℕ) → k < twos → (edge_at g k).v ≡ 2 * k + 2
  pub loopless : HasNoLoop g
  pub size_limit : length g.edges ≤ GRAPH_EDGE_LIMIT
