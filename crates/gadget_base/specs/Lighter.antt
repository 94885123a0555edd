-- A graph with only some of its edges, and one whose weights aren't looked at.
use Rattle.std.specs.Prelude.{ℤ, int_lt}
use Rattle.std.specs.List.{filter}
use Rattle.graph_theory.specs.Graph.{Multigraph}

-- the same vertices, and only the edges that weigh less than w
abbrev pub lighter_than : ℤ → Multigraph → Multigraph
lighter_than w g = record { vertices = g.vertices; edges = filter (λ e. int_lt e.w w) g.edges }
