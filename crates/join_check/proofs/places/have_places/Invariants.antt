use Rattle.mb_problem.proofs.Common.{ℕ, ◌<◌, false, slice_index, slice_index_or}
use Rattle.join_check.specs.Checks.{at, HasPlace}
use Rattle.join_check.proofs.places.have_places.Given as goal

abbrev pub invariant-loop-vertex : goal.invariant-loop-vertex
invariant-loop-vertex l = (j : ℕ) → j < l.vertex → HasPlace l.lengths (slice_index l.nodes j) (at l.heights j) (slice_index_or l.odd j false)
