-- Graphs whose edges lie in one component.
use Rattle.std.specs.Prelude.{ℕ, ◌<◌, [], length}
use Rattle.graph_theory.specs.Graph.{Multigraph, edge_at}
use Rattle.graph_theory.specs.Barrier.{AreTogether}

-- all edges lie in one component
abbrev pub HasConnectedEdges : Multigraph → Type 0
HasConnectedEdges g = (j k : ℕ) → j < length g.edges → k < length g.edges
    → AreTogether g [] (edge_at g j).u (edge_at g k).u
