-- What proves that a matching is a greatest one, and that a set is the one of all vertices that
-- greatest matchings miss (Gallai, Edmonds; Schrijver, volume A, chapter 24).
use Rattle.std.specs.Prelude.{◌≡◌, ℕ, ◌+◌, ◌-◌, ◌*◌, ◌%◌, true, not, List, [], ◌∷◌, length, map}
use Rattle.std.specs.Prelude.{slice_index, pos}
use Rattle.std.specs.List.{filter}
use Rattle.graph_theory.specs.declared.edge.Edge.{Edge}
use Rattle.graph_theory.specs.Graph.{Multigraph, degree, is_loop}
use Rattle.graph_theory.specs.Walk.{IsWalk, walk_end, walk_vertices, AllDiffer}
use Rattle.graph_theory.specs.Parts.{holds}
use Rattle.graph_theory.specs.Barrier.{IsComponent, IsOddCount}
use Rattle.gallai_theory.specs.Matchings.{IsBorder}

-- edges in the matching and outside it in turn, the first in it, an even number of them
abbrev pub Alternates : List ℕ → List ℕ → Type 0
Alternates counts [] = Unit {0}
Alternates counts (e ∷ []) = ⊥
Alternates counts (e ∷ f ∷ es) = (slice_index counts (e - 1) ≡ 1)
    × (slice_index counts (f - 1) ≡ 0) × Alternates counts es

-- a path from v that comes to no vertex twice, along the matching in turn, to a vertex that the
-- matching misses
pub record IsEvenPath (g : Multigraph) (counts : List ℕ) (v : ℕ) (es : List ℕ) : Type 0 where
  pub walk : IsWalk g v es
  pub no_vertex_twice : AllDiffer (walk_vertices g v es)
  pub alternates : Alternates counts es
  pub missed : degree g counts (walk_end g v es) ≡ 0

-- each member of the set has an even path
abbrev pub HaveEvenPaths : Multigraph → List ℕ → List ℕ → Type 0
HaveEvenPaths g counts set = (v : ℕ) → holds set v ≡ true → (es : List ℕ) × IsEvenPath g counts v es

-- each component of odd size that is left without the border lies in the set
abbrev pub HoldsOddComponents : Multigraph → List ℕ → List ℕ → Type 0
HoldsOddComponents g set border = (component : List ℕ) (v : ℕ) → IsComponent g border component
    → length component % 2 ≡ 1 → holds component v ≡ true → holds set v ≡ true

-- Without the border of the set as many components have odd size as a matching of this size misses
-- vertices and the border has members, and each of them lies in the set.
pub record IsDecomposed (g : Multigraph) (size : ℕ) (set border : List ℕ) : Type 0 where
  pub is_border : IsBorder g set border
  pub odd : ℕ
  pub counted : IsOddCount g border odd
  pub enough : odd + 2 * size ≡ g.vertices + length border
  pub inside : HoldsOddComponents g set border

-- an edge, and a graph, with each weight read as 0
abbrev pub weightless : Edge → Edge
weightless e = record { u = e.u; v = e.v; w = pos 0 }

abbrev pub unweighted : Multigraph → Multigraph
unweighted g = record { vertices = g.vertices; edges = map weightless g.edges }

-- the same graph without its loops
abbrev pub without_loops : Multigraph → Multigraph
without_loops g = record { vertices = g.vertices; edges = filter (λ e. not (is_loop e)) g.edges }
