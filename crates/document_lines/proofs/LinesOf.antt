-- The lines of sets, one after the other.
use Rattle.certificates.proofs.Common.{◌≡◌, ℕ, ◌+◌, ◌<◌, List, [], ◌∷◌, ◌++◌, length, get_or, ap, sym, ◌∙◌, subst, inl, inr, arith, cases_lt}
use Rattle.certificates.proofs.Common.{get_or_append_left, get_or_push, length_push, DualSet, SetLine}
use Rattle.document_lines.specs.LastLines.{IsLineOf}

-- each line is that of its set
abbrev pub AreLinesOf : List DualSet → List SetLine → Type 0
AreLinesOf sets lines = (k : ℕ) (z : SetLine) → k < length lines → z ≡ get_or lines k z → IsLineOf sets k z

-- one line more
pub lines-push : (sets : List DualSet) (lines new : List SetLine) (z : SetLine) → AreLinesOf sets lines → new ≡ lines ++ z ∷ [] → IsLineOf sets (length lines) z
    → AreLinesOf sets new
lines-push sets lines new z before now line k y b is =
    let read : y ≡ get_or (lines ++ z ∷ []) k y = is ∙ ap (λ (xs : List SetLine). get_or xs k y) now in
    elim (cases_lt k (length lines)) [
      | inl low ↦ before k y low (read ∙ get_or_append_left lines (z ∷ []) y k low)
      | inr high ↦
          let long : length new ≡ length lines + 1 = ap (λ (xs : List SetLine). length xs) now ∙ length_push lines z in
          let at : k ≡ length lines = omega (arith, long, b, high) in
          let same : y ≡ z = read ∙ get_or_push lines z y k (sym at) in
          subst (λ (x : SetLine). IsLineOf sets k x) (sym same) (subst (λ (j : ℕ). IsLineOf sets j z) (sym at) line)
    ]
