-- Lemmas on the positions of a stretch: their vertices, and whether the sets that span them are alone.
use Rattle.graph_theory.proofs.Common.{◌≡◌, ◌∙◌, sym, ap, inl, inr, arith, ℕ, ◌<◌, ◌≤◌, Bool, true, List, length, All, cases_lt, cases_order, false≢true}
use Rattle.graph_theory.proofs.Common.{AreEarlier, IsGivenWithin, same_tests}
use Rattle.graph_theory.specs.declared.odd_set.OddSet.{OddSet}
use Rattle.graph_parts.specs.Marks.{is_marked}
use Rattle.dual_check.specs.declared.forest.Forest.{Forest}
use Rattle.dual_check.specs.Forests.{AreAlone, IsAlone, IsForest, spans, vertex_at}
use Rattle.dual_check.specs.Links.{IsGrown, set_of}
use Rattle.dual_check.specs.Trees.{number_at}
use Rattle.dual_check.proofs.FormLaw.{lies-within}
use Rattle.dual_check.proofs.NamedPlaces.{named_own}
use Rattle.dual_check.proofs.StretchLemmas.{at_position, spans_is, stands_member}

-- the vertex at a position is one of the graph's
pub spanned-within : (m : ℕ) (sets : List OddSet) (n : ℕ) (f : Forest) (j q : ℕ) → AreEarlier sets → n ≤ length sets → All (IsGivenWithin m) sets → IsForest sets n f
    → j < n → spans f j q ≡ true → vertex_at f q ≤ m
spanned-within m sets n f j q earlier few within forest b inside =
    (lies-within m sets j (vertex_at f q) earlier (omega (arith, b, few)) within (stands_member sets n f forest j b q inside)).1

-- two sets that none refers to share no position
roots_differ : (sets : List OddSet) (n : ℕ) (f : Forest) (i j q : ℕ) → IsGrown sets n f → i < n → j < n → n ≤ number_at f.parents.items i → n ≤ number_at f.parents.items j
    → spans f i q ≡ true → spans f j q ≡ true → i ≡ j
roots_differ sets n f i j q g b c top_i top_j in_i in_j = elim (cases_order i j) [
  | inl e ↦ e
  | inr rest ↦ absurd (elim rest [
    | inl less ↦ let up = g.links.next i j q less c in_i in_j in omega (arith, up.0, top_i)
    | inr more ↦ let up = g.links.next j i q more b in_j in_i in omega (arith, up.0, top_j)
  ])
]

-- the sets of a tree are alone where the one is that none refers to
pub tree_alone : (sets : List OddSet) (flags : List Bool) (f : Forest) (j r q : ℕ) → AreEarlier sets → AreAlone sets flags → IsGrown sets (length sets) f
    → j < length sets → r < length sets → length sets ≤ number_at f.parents.items r → spans f j q ≡ true → spans f r q ≡ true → is_marked flags j ≡ is_marked flags r
tree_alone sets flags f j r q earlier are g b c root in_j in_r = same_tests (is_marked flags j) (is_marked flags r)
    (λ on. elim (cases_lt (number_at f.parents.items j) (length sets)) [
      | inl inner ↦ absurd (false≢true (sym (((are.alone j b).0 on).none_refers (number_at f.parents.items j) inner) ∙ g.links.parents_are.refers j b inner))
      | inr top ↦ ap (is_marked flags) (sym (roots_differ sets (length sets) f j r q g b c top root in_j in_r)) ∙ on
    ])
    (λ on.
    let alone : IsAlone sets r = (are.alone r c).0 on in
    let own : set_of f q ≡ r = at_position sets (length sets) f g.forest r c (λ p. p.set ≡ r) q in_r (named_own sets r earlier c alone.no_references) in
    let least = (g.links.named q (let inside = g.forest.ordered r c in let at = spans_is f r q in_r in omega (arith, inside.1, at.1))).least j b in_j in_j in
    elim (cases_lt r j) [
      | inl more ↦ let up = g.links.next r j q more b in_r in_j in absurd (omega (arith, up.0, root))
      | inr less ↦ ap (is_marked flags) (let same : j ≡ r = omega (arith, own, least, less) in same) ∙ on
    ])
