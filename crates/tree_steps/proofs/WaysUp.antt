-- The nodes before one on a way up, the links of these, and the circuit of two ways.
use Rattle.alt_forest.proofs.Common.{◌≡◌, ◌≢◌, ◌⊎◌, ◌||◌, ℕ, true, false, eqb, cond, List, [], ◌∷◌, length, refl, sym, ap, ◌∙◌, ⊎_elim, inl, inr, arith}
use Rattle.alt_forest.proofs.Common.{cases_eq, eq-eqb, ne_eqb, eqb-true, or_cases, or_left, or_right, both_ways, holds, Link, in_ring, State}
use Rattle.tree_steps.specs.Circuits.{before, mirror, circuit_of, links_above}
use Rattle.tree_steps.proofs.Mirror.{mirror_has}

pub before_past : (x base : ℕ) (xs : List ℕ) → x ≢ base → before (x ∷ xs) base ≡ x ∷ before xs base
before_past x base xs ne = ap (λ t. cond t [] (x ∷ before xs base)) (ne_eqb x base ne)

pub before_here : (x base : ℕ) (xs : List ℕ) → x ≡ base → before (x ∷ xs) base ≡ []
before_here x base xs at = ap (λ t. cond t [] (x ∷ before xs base)) (eq-eqb x base at)

pub before_sub : (xs : List ℕ) (base c : ℕ) → holds (before xs base) c ≡ true → holds xs c ≡ true
before_sub [] base c e = e
before_sub (x ∷ xs) base c e = ⊎_elim
    (λ at. absurd (both_ways false refl (sym (ap (λ ys. holds ys c) (before_here x base xs at)) ∙ e)))
    (λ ne. ⊎_elim (λ here. or_left (eqb x c) (holds xs c) here) (λ more. or_right (eqb x c) (holds xs c) (before_sub xs base c more))
    (or_cases (eqb x c) (holds (before xs base) c) (sym (ap (λ ys. holds ys c) (before_past x base xs ne)) ∙ e)))
    (cases_eq x base)

-- the links have these nodes
pub links_have : (s : State) (xs : List ℕ) (c : ℕ) → in_ring (links_above s xs) c ≡ holds xs c
links_have s [] c = refl
links_have s (x ∷ xs) c = ap (λ t. eqb x c || t) (links_have s xs c)

pub links_length : (s : State) (xs : List ℕ) → length (links_above s xs) ≡ length xs
links_length s [] = refl
links_length s (x ∷ xs) = omega (arith, links_length s xs)

-- a node of the circuit is the base, or one of the ways
pub circuit_parts : (base e : ℕ) (ls ks : List Link) (c : ℕ) → in_ring (circuit_of base e ls ks) c ≡ true → (base ≡ c) ⊎ ((in_ring ls c ≡ true) ⊎ (in_ring ks c ≡ true))
circuit_parts base e ls ks c on = ⊎_elim
    (λ here. inl (eqb-true base c here))
    (λ later. inr (or_cases (in_ring ls c) (in_ring ks c) (sym (mirror_has e ls ks c) ∙ later))) (or_cases (eqb base c) (in_ring (mirror e ls ks) c) on)

pub on_circuit : (base e : ℕ) (ls ks : List Link) (c : ℕ) → (base ≡ c) ⊎ ((in_ring ls c ≡ true) ⊎ (in_ring ks c ≡ true)) → in_ring (circuit_of base e ls ks) c ≡ true
on_circuit base e ls ks c parts = ⊎_elim
    (λ here. or_left (eqb base c) (in_ring (mirror e ls ks) c) (eq-eqb base c here))
    (λ way. or_right (eqb base c) (in_ring (mirror e ls ks) c)
    (mirror_has e ls ks c ∙ ⊎_elim (λ left. or_left (in_ring ls c) (in_ring ks c) left) (λ right. or_right (in_ring ls c) (in_ring ks c) right) way))
    parts
