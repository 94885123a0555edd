-- The ends of a path are the first vertex of odd value and the next one.
use Rattle.graph_theory.proofs.Common.{◌≡◌, ℕ, ◌%◌, ◌<◌, ◌≤◌, refl, sym, inl, inr, subst, arith}
use Rattle.mb_problem.specs.Feasible.{AreEnds}
use Rattle.mb_problem.specs.Network.{Network, vertices, value_of}
use Rattle.mb_problem.proofs.EndLemmas.{ends-low, ends-high}
use Rattle.mb_problem.specs.Ready.{HasEnds}

-- a vertex of odd value, and the first one after another, where there is one
abbrev pub IsNextOdd : Network → ℕ → ℕ → Type 0
IsNextOdd i after v = (t : ℕ) → after < t → t ≤ vertices i → value_of i t % 2 ≡ 1 → (after < v) × (v ≤ t) × (value_of i v % 2 ≡ 1)

pub ends-found : (i : Network) (s t : ℕ) → HasEnds i → IsNextOdd i 0 s → IsNextOdd i s t → AreEnds i s t
ends-found i s t has first second =
    let a = has.0 in
    let b = has.1 in
    let ends : AreEnds i a b = has.2 in
    let low : 1 ≤ a = ends-low i a b ends in
    let order : a < b = ends.order in
    let high : b ≤ vertices i = ends-high i a b ends in
    let one = first a (omega (arith, low)) (omega (arith, order, high)) ((ends.exact a).1 (inl refl)).2 in
    let some : 0 < s = one.0 in
    let before : s ≤ a = one.1 in
    let at_s : s ≡ a = elim ((ends.exact s).0 (omega (arith, some), omega (arith, before, order, high), one.2)) [ inl e ↦ e | inr e ↦ absurd (omega (arith, e, before, order)) ] in
    let two = second b (omega (arith, at_s, order)) high ((ends.exact b).1 (inr refl)).2 in
    let after : s < t = two.0 in
    let up_to : t ≤ b = two.1 in
    let at_t : t ≡ b = elim ((ends.exact t).0 (omega (arith, after), omega (arith, up_to, high), two.2)) [ inl e ↦ absurd (omega (arith, e, at_s, after)) | inr e ↦ e ] in
    subst (λ (x : ℕ). AreEnds i x t) (sym at_s) (subst (λ (y : ℕ). AreEnds i a y) (sym at_t) ends)
