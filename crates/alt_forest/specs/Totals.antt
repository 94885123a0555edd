-- The sum of all duals of a state (chapter 26).
use Rattle.std.specs.Prelude.{ℕ, ◌+◌, ℤ, pos, ◌+ℤ◌, List, [], ◌∷◌}
use Rattle.graph_theory.specs.Sums.{int_sum_to}
use Rattle.blossom_arena.specs.Family.{names_of}
use Rattle.alt_forest.specs.State.{State}

-- the duals of some nodes, added up
abbrev pub duals_over : (ℕ → ℤ) → List ℕ → ℤ
duals_over y [] = pos 0
duals_over y (a ∷ rest) = y a +ℤ duals_over y rest

-- the duals of all vertices and blossoms, added up
abbrev pub dual_total : State → ℤ
dual_total s = int_sum_to (λ i. s.dual (i + 1)) s.graph.vertices
    +ℤ duals_over s.dual (names_of s.blossoms)
