-- The members of sets.
use Rattle.std.specs.Prelude.{ℕ, ◌≤◌, List, All}
use Rattle.graph_theory.specs.Duals.{DualSet}

-- all members are vertices from 1 to n
abbrev pub AreWithin : ℕ → List DualSet → Type 0
AreWithin n sets = All (λ s. All (λ m. (1 ≤ m) × (m ≤ n)) s.members) sets
