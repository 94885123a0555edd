-- The join of a perfect matching of least weight.
use Rattle.graph_theory.proofs.Common.{ℕ, ℤ, pos, ◌*ℤ◌, ◌≤ℤ◌, List, subst, IsGraph, IsPerfect, weight, dual_value}
use Rattle.graph_theory.proofs.Common.{weak_duality}
use Rattle.mwpm_engine.specs.Solutions.{Solution, IsSolved, matching_of}
use Rattle.least_joins.proofs.Listing.{listing}
use Rattle.join_check.proofs.Leasts.{half}

-- no perfect matching weighs less
pub least : (s : Solution) (counts : List ℕ) → IsGraph s.graph → IsSolved s → IsPerfect s.graph counts → weight s.graph (matching_of s.graph s.mates) ≤ℤ weight s.graph counts
least s counts graph is perfect =
    let lines = listing s.sets in
    let below : dual_value s.duals lines.0 ≤ℤ (pos 2 *ℤ weight s.graph counts) = weak_duality s.graph s.duals lines.0 counts graph (is.duals lines.0 lines.1) perfect in
    half (weight s.graph (matching_of s.graph s.mates)) (weight s.graph counts) (subst (λ (z : ℤ). z ≤ℤ (pos 2 *ℤ weight s.graph counts)) (is.value lines.0 lines.1) below)
