-- Walks and circuits (chapters 3 and 29): a start, and the numbers of edges, each of which has the
-- vertex reached so far as an end and leads to its other end.
use Rattle.std.specs.Prelude.{◌≡◌, ◌≢◌, ℕ, ◌≤◌, ◌<◌, ℤ, pos, ◌+ℤ◌, ◌≤ℤ◌, true, List, [], ◌∷◌}
use Rattle.std.specs.Prelude.{length, slice_index}
use Rattle.graph_theory.specs.Graph.{Multigraph, edge_of, IsEdgeNumber, touches, other_end}

abbrev pub IsWalk : Multigraph → ℕ → List ℕ → Type 0
IsWalk g v [] = Unit {0}
IsWalk g v (e ∷ es) = IsEdgeNumber g e × (touches (edge_of g e) v ≡ true)
    × IsWalk g (other_end (edge_of g e) v) es

-- the vertex that a walk ends at
abbrev pub walk_end : Multigraph → ℕ → List ℕ → ℕ
walk_end g v [] = v
walk_end g v (e ∷ es) = walk_end g (other_end (edge_of g e) v) es

-- the vertices that a walk leaves, in order: all that it comes to but the last
abbrev pub walk_left : Multigraph → ℕ → List ℕ → List ℕ
walk_left g v [] = []
walk_left g v (e ∷ es) = v ∷ walk_left g (other_end (edge_of g e) v) es

-- the vertices that a walk comes to, in order, its start first
abbrev pub walk_vertices : Multigraph → ℕ → List ℕ → List ℕ
walk_vertices g v [] = v ∷ []
walk_vertices g v (e ∷ es) = v ∷ walk_vertices g (other_end (edge_of g e) v) es

-- the weights of the edges of a walk, each as often as it is used, added up
abbrev pub walk_weight : Multigraph → List ℕ → ℤ
walk_weight g [] = pos 0
walk_weight g (e ∷ es) = (edge_of g e).w +ℤ walk_weight g es

-- a walk that ends at its start
abbrev pub IsClosedWalk : Multigraph → ℕ → List ℕ → Type 0
IsClosedWalk g v es = IsWalk g v es × (walk_end g v es ≡ v)

-- the numbers are all different
abbrev pub AllDiffer : List ℕ → Type 0
AllDiffer xs = (i j : ℕ) → i < j → j < length xs → slice_index xs i ≢ slice_index xs j

-- a circuit: a closed walk of at least one edge, all different, with vertices all different, the
-- start counted once; so a loop is one
pub record IsCircuit (g : Multigraph) (v : ℕ) (es : List ℕ) : Type 0 where
  pub walk : IsWalk g v es
  pub closed : walk_end g v es ≡ v
  pub some : 1 ≤ length es
  pub edges_differ : AllDiffer es
  pub vertices_differ : AllDiffer (walk_left g v es)

-- the weights are conservative (chapter 29): no circuit weighs less than 0
abbrev pub IsConservative : Multigraph → Type 0
IsConservative g = (v : ℕ) (es : List ℕ) → IsCircuit g v es → pos 0 ≤ℤ walk_weight g es
