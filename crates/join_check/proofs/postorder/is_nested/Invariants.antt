use Rattle.mb_problem.proofs.Common.{ℕ, ◌<◌, ◌≤◌, slice_index}
use Rattle.join_check.proofs.postorder.is_nested.Given as goal

abbrev pub invariant-loop-last : goal.invariant-loop-last
invariant-loop-last l = record {
  inside : l.last < l.node;
  kept : (z : ℕ) → l.last < z → z < l.node → l.last ≤ slice_index l.befores z;
}

abbrev pub decreases-loop-last : goal.decreases-loop-last
decreases-loop-last l = l.last
