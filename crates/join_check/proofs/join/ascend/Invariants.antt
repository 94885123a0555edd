use Rattle.mb_problem.proofs.Common.{ℕ, ◌+◌, ◌<◌, ◌≤◌, slice_index}
use Rattle.join_check.proofs.join.ascend.Given as goal

abbrev pub invariant-loop-edge : goal.invariant-loop-edge
invariant-loop-edge l = record {
  ascending : (k : ℕ) → k + 1 < l.edge-index → slice_index l.edges k < slice_index l.edges (k + 1);
  in_range : (k : ℕ) → k < l.edge-index → (1 ≤ slice_index l.edges k) × (slice_index l.edges k ≤ l.m);
  last : (k : ℕ) → k < l.edge-index → slice_index l.edges k ≤ l.last;
}
