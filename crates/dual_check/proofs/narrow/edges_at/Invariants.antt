use Rattle.graph_theory.proofs.Common.{◌≡◌, ◌-◌, ◌^◌, [], length, min, slice_index, slice_index_or, sum_to}
use Rattle.dual_check.proofs.narrow.edges_at.Given as goal

abbrev pub invariant-loop-vertex : goal.invariant-loop-vertex
invariant-loop-vertex l = l.edges ≡ min (2 ^ 64 - 1) (sum_to (λ k. length (slice_index_or l.incidence (slice_index l.members k) [])) l.vertex-index)
