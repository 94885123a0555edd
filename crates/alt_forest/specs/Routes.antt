-- Lists that lead upwards. Only clauses of private calls, and values of iterators, cite this
-- module.
use Rattle.std.specs.Prelude.{◌≡◌, ◌≢◌, ℕ, ◌<◌, false, List, [], ◌∷◌, length, slice_index_or}
use Rattle.graph_theory.specs.Parts.{holds}
use Rattle.alt_forest.specs.declared.search.Search.{Search}
use Rattle.alt_forest.specs.State.{IsOutermost}
use Rattle.alt_forest.specs.Searches.{IsSound, state_of}

-- the search is sound, and the next node of a path, if there is one, is outermost
pub record CanWalk (s : Search) (at : ℕ) : Type 0 where
  pub sound : IsSound s
  pub outermost : at ≢ 0 → IsOutermost (state_of s) at

-- two lists of one length: where they differ at a place, what stands there comes in neither of
-- their rests
abbrev pub AreLevel : List ℕ → List ℕ → Type 0
AreLevel [] [] = Unit {0}
AreLevel [] (y ∷ ys) = ⊥
AreLevel (x ∷ xs) [] = ⊥
AreLevel (x ∷ xs) (y ∷ ys) = (x ≢ y → (holds ys x ≡ false) × (holds xs y ≡ false)) × AreLevel xs ys

-- the list has this number at this place
abbrev pub IsAt : List ℕ → ℕ → ℕ → Type 0
IsAt xs k x = (k < length xs) × (slice_index_or xs k 0 ≡ x)
