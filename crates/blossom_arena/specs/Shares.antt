-- The shares of a change of duals as a table. No public clause cites this module.
use Rattle.std.specs.Prelude.{ℕ, ℤ, pos, ◌-ℤ◌, List, [], ◌∷◌}
use Rattle.blossom_arena.specs.declared.label.Label.{Label}
use Rattle.blossom_arena.specs.declared.label.Label.TheVariants.{Outer, Inner, Out}

-- the shares of a change of d in the order of the labels
abbrev pub shares_of : ℤ → List ℤ
shares_of d = d ∷ (pos 0 -ℤ d) ∷ pos 0 ∷ []

-- the place of a label among them
abbrev pub class_of : Label → ℕ
class_of Outer = 0
class_of Inner = 1
class_of Out = 2
