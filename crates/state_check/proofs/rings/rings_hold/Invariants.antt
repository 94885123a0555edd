use Rattle.alt_forest.proofs.Common.{◌≡◌, ◌⊎◌, ℕ, true, holds, names_of, state_of}
use Rattle.state_check.specs.Checks.{RingHolds}
use Rattle.state_check.proofs.rings.rings_hold.Given as goal

abbrev pub invariant-loop-b : goal.invariant-loop-b
invariant-loop-b l = record {
  left : (x : ℕ) → holds l.b-iterator x ≡ true → holds (names_of l.search.arena.blossoms) x ≡ true;
  done : (x : ℕ) → holds (names_of l.search.arena.blossoms) x ≡ true → (holds l.b-iterator x ≡ true) ⊎ RingHolds (state_of l.search) x;
}
