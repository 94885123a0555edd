-- A search whose pass without weights has found a perfect matching, once it has the one weight that all edges have.
use Rattle.alt_forest.proofs.Common.{◌≡◌, ◌∙◌, ℕ, ℤ, pos, true, sym, subst, arith, ints, ⊎_elim, or_cases, IsWeight, IsEdgeNumber, is_vertex, holds, names_of, dual_at}
use Rattle.alt_forest.proofs.Common.{IsSound, IsTight, is_given, slack_of, state_of}
use Rattle.alt_forest.specs.declared.search.Search.{Search}
use Rattle.alt_forest.specs.declared.weights.Weights.TheVariants.{Given, Zero}
use Rattle.mwpm_engine.specs.Solutions.{IsWithinBound}
use Rattle.mwpm_engine.specs.Solving.{HasBoundedDuals, HasZeroDuals, IsUnpacked}
use Rattle.mwpm_engine.specs.Passes.{IsComplete}

-- the duals of a pass without weights are 0
still_zero : (s : Search) → IsComplete s → s.weights ≡ Zero → HasZeroDuals s
still_zero s h zero a is = ⊎_elim
    (λ none. none.zero a is)
    (λ raised. absurd (let given : is_given Zero ≡ true = subst (λ w. is_given w ≡ true) zero raised.weighted in cc))
    h.bounded

-- once all blossoms have been opened they still are
pub unpacked_zero : (old new : Search) → new ≡ record old { mates = new.mates } → IsComplete old → old.weights ≡ Zero → HasZeroDuals new
unpacked_zero old new rest h zero = subst HasZeroDuals (sym rest) (still_zero old h zero)

weight_within : (n : ℕ) (w : ℤ) → IsWeight w → IsWithinBound n w
weight_within n w is = (omega (arith, ints, is.0), omega (arith, ints, is.1))

module _ (s t : Search) (w : ℤ) (rest : t ≡ record s { arena = record s.arena { duals = t.arena.duals }; weights = Given; start = w }) where
  pub weighed_unpacked : IsSound t → ((e : ℕ) → IsEdgeNumber s.graph e → slack_of (state_of t) e ≡ slack_of (state_of s) e) → IsUnpacked s → IsUnpacked t
  weighed_unpacked sound slacks h = subst IsUnpacked (sym rest) (record {
    sound = subst IsSound rest sound;
    mates = h.mates;
    perfect = h.perfect;
    tight = λ v e is has. let tight = h.tight v e is has in
        subst (λ (x : Search). IsTight (state_of x) e) rest
        (record { edge = subst (λ (x : Search). IsEdgeNumber x.graph e) (sym rest) tight.edge; tight = slacks e tight.edge ∙ tight.tight });
    leaves = h.leaves;
  })

  pub weighed_within : IsWeight w → ((v : ℕ) → is_vertex s.graph.vertices v ≡ true → dual_at t.arena.duals v ≡ w)
      → ((b : ℕ) → holds (names_of s.arena.blossoms) b ≡ true → dual_at t.arena.duals b ≡ pos 0) → HasBoundedDuals t
  weighed_within is vertices blossoms = subst HasBoundedDuals (sym rest) (λ a node. ⊎_elim
      (λ v. subst (IsWithinBound s.graph.vertices) (sym (vertices a v)) (weight_within s.graph.vertices w is))
      (λ b. subst (IsWithinBound s.graph.vertices) (sym (blossoms a b)) (weight_within s.graph.vertices (pos 0) (omega (arith, ints), omega (arith, ints))))
      (or_cases (is_vertex s.graph.vertices a) (holds (names_of s.arena.blossoms) a) node))
