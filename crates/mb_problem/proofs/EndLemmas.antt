-- The two vertices of odd value.
use Rattle.graph_theory.proofs.Common.{◌≡◌, ℕ, ◌+◌, ◌-◌, ◌<◌, ◌≤◌, ◌%◌, ◌⊎◌, ◌↔◌, Bool, true, false, not, inl, inr, refl, sym, ap, ◌∙◌, arith}
use Rattle.graph_theory.proofs.Common.{slice_index, beq, false≢true}
use Rattle.mb_problem.specs.Network.{Network, vertices, value_of}
use Rattle.mb_problem.specs.Feasible.{AreEnds}

-- the vertices of odd value among the first k are those of s and t there
abbrev pub AreEndsBelow : Network → ℕ → ℕ → ℕ → Type 0
AreEndsBelow i s t k = (j : ℕ) → j < k → (slice_index i.values j % 2 ≡ 1) ↔ ((j + 1 ≡ s) ⊎ (j + 1 ≡ t))

-- both are vertices
pub ends-low : (i : Network) (s t : ℕ) → AreEnds i s t → 1 ≤ s
ends-low i s t ends = ((ends.exact s).1 (inl refl)).0

pub ends-high : (i : Network) (s t : ℕ) → AreEnds i s t → t ≤ vertices i
ends-high i s t ends = ((ends.exact t).1 (inr refl)).1

pub value-next : (i : Network) (k : ℕ) → value_of i (k + 1) ≡ slice_index i.values k
value-next i k = let same : k + 1 - 1 ≡ k = omega arith in ap (λ (p : ℕ). slice_index i.values p) same

pub ends-there : (i : Network) (s t k : ℕ) → AreEnds i s t → k < vertices i → (slice_index i.values k % 2 ≡ 1) ↔ ((k + 1 ≡ s) ⊎ (k + 1 ≡ t))
ends-there i s t k ends b = (
  (λ odd. (ends.exact (k + 1)).0 (omega arith, omega arith, ap (λ (x : ℕ). x % 2) (value-next i k) ∙ odd)),
  (λ h. ap (λ (x : ℕ). x % 2) (sym (value-next i k)) ∙ ((ends.exact (k + 1)).1 h).2),
)

pub same_flags : (a b : Bool) → (a ≡ true → b ≡ true) → (b ≡ true → a ≡ true) → not (beq a b) ≡ true → ⊥
same_flags true true there back differ = false≢true differ
same_flags true false there back differ = false≢true (there refl)
same_flags false true there back differ = false≢true (back refl)
same_flags false false there back differ = false≢true differ
