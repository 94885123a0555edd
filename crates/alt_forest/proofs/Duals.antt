-- The bounds of the duals of blossoms.
use Rattle.graph_theory.proofs.Common.{◌≡◌, ℕ, ℤ, pos, ◌≤ℤ◌, true, false, eqb, List, [], ◌∷◌, refl, subst, ⊎_elim, both_ways, eqb-true, or_cases, AllByRecursion}
use Rattle.graph_theory.proofs.Common.{holds}
use Rattle.blossom_arena.specs.Family.{Blossom, names_of}

-- no blossom's dual is below 0
pub low_at : (y : ℕ → ℤ) (bs : List Blossom) (x : ℕ) → AllByRecursion (λ (b : Blossom). pos 0 ≤ℤ y b.node) bs → holds (names_of bs) x ≡ true → pos 0 ≤ℤ y x
low_at y [] x all e = absurd (both_ways false refl e)
low_at y (b ∷ bs) x all e = ⊎_elim (λ here. subst (λ a. pos 0 ≤ℤ y a) (eqb-true b.node x here) all.0)
    (λ more. low_at y bs x all.1 more) (or_cases (eqb b.node x) (holds (names_of bs) x) e)
