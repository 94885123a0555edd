-- The edges at each vertex.
use Rattle.std.specs.Prelude.{◌≡◌, ℕ, ◌+◌, ◌≤◌, List, [], ◌∷◌, length, slice_index_or}
use Rattle.std.specs.Prelude.{if◌then◌else◌}
use Rattle.graph_theory.specs.declared.edge.Edge.{Edge}
use Rattle.graph_theory.specs.Graph.{Multigraph, edges_around, is_loop}

-- the number of an edge beside each of its ends, beside that of a loop once
abbrev pub noted : Edge → ℕ → List (ℕ × ℕ)
noted e number = (e.u, number) ∷ (if is_loop e then [] else (e.v, number) ∷ [])

-- for each vertex the numbers of its edges, ascending; place 0 isn't a vertex
pub record IsIndex (g : Multigraph) (lists : List (List ℕ)) : Type 0 where
  pub size : length lists ≡ g.vertices + 1
  pub exact : (v : ℕ) → v ≤ g.vertices → slice_index_or lists v [] ≡ edges_around g v
