use Rattle.mb_problem.proofs.Common.{ℕ, ℤ, false, subst, refl, below_more, slice_index, slice_index_or, w64, rules}
use Rattle.std.specs.Prelude.{FitsSigned}
use Rattle.std.proofs.lemmas.Int.{to_z-of_z}
use Rattle.join_check.specs.Checks.{at, HasPlace}
use Rattle.join_check.proofs.places.have_places.Goals as goal

pub loop-vertex-preserved : goal.loop-vertex-preserved
loop-vertex-preserved c =
    let fits : FitsSigned w64 (at c.args.heights.now c.loop-vertex.vertex) = search rules in
    below_more (λ (j : ℕ). HasPlace c.args.lengths.now (slice_index c.args.nodes.now j) (at c.args.heights.now j) (slice_index_or c.args.odd.now j false)) c.loop-vertex.vertex
    c.loop-vertex.invariant
    (subst (λ (z : ℤ). HasPlace c.args.lengths.now (slice_index c.args.nodes.now c.loop-vertex.vertex) z (slice_index_or c.args.odd.now c.loop-vertex.vertex false))
    (to_z-of_z w64 (at c.args.heights.now c.loop-vertex.vertex) fits)
    (c.if-not-has_place.ensures refl))
