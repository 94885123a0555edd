-- Links of trees: edges, each with the end that it leads to, in the order in which a search finds
-- them.
use Rattle.std.specs.Prelude.{◌≡◌, ℕ, ◌⊎◌, true, List, [], ◌∷◌, ◌++◌}
use Rattle.graph_theory.specs.Graph.{Multigraph, IsEdgeNumber, edge_of, touches, other_end}
use Rattle.graph_theory.specs.Parts.{holds}
use Rattle.graph_parts.specs.declared.links.Link.{Link}

-- the vertices that links lead to
abbrev pub tos : List Link → List ℕ
tos [] = []
tos (l ∷ ls) = l.to ∷ tos ls

-- the vertex that a link leads from
abbrev pub from_of : Multigraph → Link → ℕ
from_of g l = other_end (edge_of g l.edge) l.to

-- an edge of the graph, and one of its ends
pub record IsLink (g : Multigraph) (l : Link) : Type 0 where
  pub number : IsEdgeNumber g l.edge
  pub meets : touches (edge_of g l.edge) l.to ≡ true

-- each link leads from a vertex that is seen to one that is seen from then on
abbrev pub IsTree : Multigraph → List ℕ → List Link → Type 0
IsTree g seen [] = Unit {0}
IsTree g seen (l ∷ ls) = IsLink g l × (holds seen (from_of g l) ≡ true) × IsTree g (l.to ∷ seen) ls

-- a vertex and a link to it are added, or neither
abbrev pub AddsLink : Link → List ℕ → List Link → List ℕ → List Link → Type 0
AddsLink l before old reached new = ((reached ≡ before) × (new ≡ old)) ⊎
    ((reached ≡ before ++ l.to ∷ []) × (new ≡ old ++ l ∷ []))

-- a link leads to each reached vertex but the start
abbrev pub AreLinked : ℕ → List ℕ → List Link → Type 0
AreLinked start reached links = (w : ℕ) → holds reached w ≡ true
    → (w ≡ start) ⊎ (holds (tos links) w ≡ true)

-- links from v are added
pub record LinksFrom (g : Multigraph) (v : ℕ) (before : List ℕ) (old : List Link) (reached : List ℕ)
    (new : List Link) : Type 0 where
  pub kept : (w : ℕ) → holds (tos old) w ≡ true → holds (tos new) w ≡ true
  pub tree : (roots : List ℕ) → (holds roots v ≡ true) ⊎ (holds (tos old) v ≡ true)
      → IsTree g roots old → IsTree g roots new
  pub linked : (start : ℕ) → AreLinked start before old → AreLinked start reached new

-- links that join what is reached with the start are added
pub record LinksAll (g : Multigraph) (start : ℕ) (old : List Link) (reached : List ℕ)
    (new : List Link) : Type 0 where
  pub kept : (w : ℕ) → holds (tos old) w ≡ true → holds (tos new) w ≡ true
  pub tree : (roots : List ℕ) → holds roots start ≡ true → IsTree g roots old → IsTree g roots new
  pub linked : AreLinked start reached new
