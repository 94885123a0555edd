-- A search through a graph where a set of vertices is removed. `out` marks the removed set.
use Rattle.std.specs.Prelude.{◌≡◌, ℕ, ◌≤◌, ◌↔◌, ◌⊎◌, Bool, true, false, ◌||◌, List, []}
use Rattle.std.specs.Prelude.{◌∷◌, ◌++◌, length, All, slice_set}
use Rattle.graph_theory.specs.Graph.{Multigraph, IsEdgeNumber, edge_of, touches, other_end}
use Rattle.graph_theory.specs.Parts.{holds}
use Rattle.graph_theory.specs.Barrier.{AreTogether}
use Rattle.graph_theory.specs.Walk.{AllDiffer}
use Rattle.graph_parts.specs.Marks.{is_marked, MarksSet}

-- v is marked and reached now, or it is removed or was marked before
pub record ReachesOne (out : List Bool) (v : ℕ) (old : List Bool) (before : List ℕ)
    (new : List Bool) (reached : List ℕ) : Type 0 where
  pub settled : is_marked out v ≡ false → is_marked new v ≡ true
  pub step : ((new ≡ old) × (reached ≡ before)) ⊎ ((is_marked out v ≡ false)
      × (is_marked old v ≡ false) × (new ≡ slice_set old v true) × (reached ≡ before ++ v ∷ []))

-- marks stay, and more is reached
pub record Grows (old : List Bool) (before : List ℕ) (new : List Bool)
    (reached : List ℕ) : Type 0 where
  pub size : length new ≡ length old
  pub kept : (w : ℕ) → is_marked old w ≡ true → is_marked new w ≡ true
  pub more : List ℕ
  pub list : reached ≡ before ++ more

-- exactly what is reached is marked now and was not before, all of it is together with the start
pub record AreReached (g : Multigraph) (out : List Bool) (start : ℕ) (old new : List Bool)
    (reached : List ℕ) : Type 0 where
  pub marked : (w : ℕ) → is_marked new w ≡ (is_marked old w || holds reached w)
  pub sound : (removed : List ℕ) → MarksSet out removed → (w : ℕ) → holds reached w ≡ true
      → AreTogether g removed start w
  pub in_range : All (λ v. (1 ≤ v) × (v ≤ g.vertices)) reached
  pub once : AllDiffer reached

-- all neighbours of v are marked or removed
abbrev pub IsSettled : Multigraph → List Bool → List Bool → ℕ → Type 0
IsSettled g out marks v = (e : ℕ) → IsEdgeNumber g e → touches (edge_of g e) v ≡ true
    → is_marked out (other_end (edge_of g e) v) ≡ false
    → is_marked marks (other_end (edge_of g e) v) ≡ true

-- v's neighbours are reached, and what is together with some start still is
pub record ReachesFrom (g : Multigraph) (out : List Bool) (v : ℕ) (old : List Bool)
    (before : List ℕ) (new : List Bool) (reached : List ℕ) : Type 0 where
  pub grows : Grows old before new reached
  pub keeps : (start : ℕ) (first : List Bool) → holds before v ≡ true
      → AreReached g out start first old before → AreReached g out start first new reached
  pub settled : IsSettled g out new v

-- exactly what is together with the start is reached, once, and marked, if no mark was together
-- with it
pub record Finds (g : Multigraph) (out : List Bool) (start : ℕ) (old new : List Bool)
    (reached : List ℕ) : Type 0 where
  pub marked : (w : ℕ) → is_marked new w ≡ (is_marked old w || holds reached w)
  pub exact : (removed : List ℕ) → MarksSet out removed → ((w : ℕ) → is_marked old w ≡ true
      → AreTogether g removed start w → ⊥) → (w : ℕ) → (holds reached w ≡ true)
      ↔ AreTogether g removed start w
  pub once : AllDiffer reached
