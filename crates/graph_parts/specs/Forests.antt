-- Spanning forests, whose roots are the least vertices of components.
use Rattle.std.specs.Prelude.{◌≡◌, ℕ, ◌+◌, ◌≤◌, ◌⊎◌, ◌↔◌, Bool, true, List, [], IsTrue}
use Rattle.graph_theory.specs.Graph.{Multigraph}
use Rattle.graph_theory.specs.Parts.{holds}
use Rattle.graph_theory.specs.Barrier.{AreTogether, IsOddHead}
use Rattle.graph_parts.specs.declared.links.Link.{Link}
use Rattle.graph_parts.specs.Marks.{is_marked}
use Rattle.graph_parts.specs.Heads.{SeenBelow}
use Rattle.graph_parts.specs.Links.{tos, IsTree}

-- a vertex, the least of those that are together with it
abbrev pub IsLeastTogether : Multigraph → List ℕ → ℕ → Type 0
IsLeastTogether g removed v = (1 ≤ v) × ((w : ℕ) → AreTogether g removed v w → v ≤ w)

-- trees with least vertices as their roots, which reach each vertex that is marked
pub record IsForest (g : Multigraph) (removed : List ℕ) (marks : List Bool)
    (links : List Link) : Type 0 where
  pub roots : List ℕ
  pub least : (v : ℕ) → holds roots v ≡ true → IsLeastTogether g removed v
  pub tree : IsTree g roots links
  pub covered : (v : ℕ) → is_marked marks v ≡ true → (holds roots v ≡ true) ⊎ (holds (tos links) v
      ≡ true)

-- .. which reach each vertex
pub record IsSpanningForest (g : Multigraph) (links : List Link) : Type 0 where
  pub roots : List ℕ
  pub least : (v : ℕ) → holds roots v ≡ true → IsLeastTogether g [] v
  pub tree : IsTree g roots links
  pub covered : (v : ℕ) → 1 ≤ v → v ≤ g.vertices → (holds roots v ≡ true) ⊎ (holds (tos links) v
      ≡ true)

-- what the visit of vertex v finds, where all components of lesser vertices are marked: whether it
-- is the least of one of odd size, which is then what is reached, and a tree that spans it
pub record Visited (g : Multigraph) (removed : List ℕ) (v : ℕ) (odd : Bool) (old new : List Bool)
    (reached : List ℕ) (before links : List Link) : Type 0 where
  pub seen : SeenBelow g removed (v + 1) new
  pub head : IsTrue odd ↔ IsOddHead g removed v
  pub members : IsTrue odd → (w : ℕ) → (holds reached w ≡ true) ↔ AreTogether g removed v w
  pub forest : IsForest g removed old before → IsForest g removed new links
