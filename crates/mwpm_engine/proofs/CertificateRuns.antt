-- What a run needs for a certificate: that the search was opened, that its slacks count weights, and a list of the sets.
use Rattle.alt_forest.proofs.Common.{◌≡◌}
use Rattle.alt_forest.proofs.Common.{ℕ, true, sym, ap, subst, Some, AllByRecursion, IsPerfect, Blossom, is_vertex, IsTight, doubled, IsSound, state_of, edge_in, is_given}
use Rattle.alt_forest.specs.declared.search.Search.{Search}
use Rattle.alt_forest.specs.declared.weights.Weights.TheVariants.{Given}
use Rattle.augment.specs.Matching.{IsVertexMate, mate_counts, leaving}
use Rattle.mwpm_engine.specs.Solving.{CountsWeights, IsUnpacked}

-- what holds once all blossoms have been opened
pub unpacked : (old new : Search) → new ≡ record old { mates = new.mates } → IsSound new
    → ((v : ℕ) → is_vertex old.graph.vertices v ≡ true → IsVertexMate old.graph (edge_in new.mates.items) v)
    → IsPerfect old.graph (mate_counts old.graph (edge_in new.mates.items))
    → ((v e : ℕ) → is_vertex old.graph.vertices v ≡ true → edge_in new.mates.items v ≡ Some e → IsTight (state_of new) e)
    → AllByRecursion (λ (b : Blossom). leaving old.graph (mate_counts old.graph (edge_in new.mates.items)) b.members ≡ 1) old.arena.blossoms
    → IsUnpacked new
unpacked old new rest sound mates perfect tight leaves = subst IsUnpacked (sym rest) (record {
  sound = subst IsSound rest sound;
  mates = mates;
  perfect = perfect;
  tight = λ v e is has. subst (λ (s : Search). IsTight (state_of s) e) rest (tight v e is has);
  leaves = leaves;
})

-- with weights a slack counts twice the weight
pub counts_given : (s : Search) → s.weights ≡ Given → CountsWeights s
counts_given s given e is = ap (λ w. doubled s.graph (is_given w) e) given
