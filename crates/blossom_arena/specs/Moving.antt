-- How duals are kept that move all at once. No public clause cites this module.
use Rattle.std.specs.Prelude.{◌≡◌, ℕ, ℤ, pos, ◌+ℤ◌, ◌≤ℤ◌, List, [], ◌∷◌, length, replicate}
use Rattle.graph_theory.specs.declared.limits.TheConstants.{NUMBER_LIMIT}
use Rattle.graph_theory.specs.Duals.{IsNumber}
use Rattle.blossom_arena.specs.declared.label.Label.{Label}
use Rattle.blossom_arena.specs.declared.label.Label.TheVariants.{Out}
use Rattle.blossom_arena.specs.declared.dual_table.Duals.TheInside.{Inside}
use Rattle.blossom_arena.specs.Family.{dual_at}
use Rattle.blossom_arena.specs.Changes.{share}

-- the duals by node number as they are now, and how each of them moves
pub record DualTable : Type 0 where
  pub values : List ℤ
  pub motions : List Label

-- bases with their shares of the clock
abbrev pub moved : ℤ → List ℤ → List Label → List ℤ
moved clock [] ms = []
moved clock (y ∷ ys) [] = y ∷ moved clock ys []
moved clock (y ∷ ys) (m ∷ ms) = (y +ℤ share clock m) ∷ moved clock ys ms

abbrev pub table_of : Inside → DualTable
table_of t = record
    { values = moved t.shares t.bases.items t.motions.items; motions = t.motions.items }

-- duals of 0 that rest
abbrev pub empty_table : ℕ → DualTable
empty_table places = record { values = replicate places (pos 0); motions = replicate places Out }

-- each dual has a motion and lies in range, and so does the clock
pub record IsTable (t : Inside) : Type 0 where
  pub low : pos 0 ≤ℤ t.shares
  pub high : t.shares ≤ℤ NUMBER_LIMIT
  pub motions : length t.motions.items ≡ length t.bases.items
  pub numbers : (a : ℕ) → IsNumber (dual_at (moved t.shares t.bases.items t.motions.items) a)
