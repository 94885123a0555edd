-- Least vertices of components.
use Rattle.std.specs.Prelude.{◌≡◌, ℕ, ◌<◌, ◌≤◌, ◌↔◌, Bool, true, List}
use Rattle.graph_theory.specs.Graph.{Multigraph}
use Rattle.graph_theory.specs.Barrier.{AreTogether}
use Rattle.graph_parts.specs.Marks.{is_marked}

-- exactly what is together with a vertex below n is marked
abbrev pub SeenBelow : Multigraph → List ℕ → ℕ → List Bool → Type 0
SeenBelow g removed n marks = (w : ℕ) → (is_marked marks w ≡ true) ↔ ((u : ℕ) × (1 ≤ u) × (u < n)
    × AreTogether g removed u w)
