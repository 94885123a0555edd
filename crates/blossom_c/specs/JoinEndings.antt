-- What a call over a graph and many sets of terminals leaves, by the number that it answers.
use Rattle.std.specs.Prelude.{◌≡◌, ℕ, ℤ, List}
use Rattle.array_call.specs.Arrays.{Arrays}
use Rattle.array_joins.specs.Answers.{GivesJoins}
use Rattle.blossom_c.specs.declared.array_ending.ArrayEnding.{ArrayEnding}
use Rattle.blossom_c.specs.ArrayEndings.{number_of_array_ending, Ends}

-- the number tells the ending: numbers for these sets stand in the buffer, or are too many for it
abbrev pub TellsJoining : Arrays → List ℕ → List ℕ → List ℤ → List ℤ → ℕ → ℕ → Type 0
TellsJoining a starts terminals before after used number = (ending : ArrayEnding)
    × (number ≡ number_of_array_ending ending)
    × Ends (GivesJoins a starts terminals) before after used ending
