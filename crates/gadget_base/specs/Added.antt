-- What is left of a list of edges that running out of memory cut short.
use Rattle.std.specs.Prelude.{◌≡◌, ℕ, ◌<◌, List, ◌++◌, length, take}
use Rattle.graph_theory.specs.declared.edge.Edge.{Edge}
use Rattle.graph_theory.specs.Graph.{Multigraph}

-- the graph has gained the first of these edges, fewer than all, and nothing else
pub record AddsFirst (old new : Multigraph) (es : List Edge) : Type 0 where
  pub count : ℕ
  pub fewer : count < length es
  pub added : new ≡ record old { edges = old.edges ++ take count es }
