use Rattle.mb_problem.proofs.Common.{◌≡◌, ℕ, ◌+◌, ◌<◌, ◌≤◌, length, slice_index, vertices, odd_at}
use Rattle.mb_problem.specs.Size.{edge_count_at}
use Rattle.join_check.proofs.join.odds_of.Given as goal

abbrev pub invariant-loop-vertex : goal.invariant-loop-vertex
invariant-loop-vertex l = record {
  size : length l.odds.items ≡ vertices l.instance;
  done : (j : ℕ) → j < l.vertex → slice_index l.odds.items j ≡ odd_at l.parity l.instance (j + 1);
  left : (j : ℕ) → l.vertex ≤ j → j < vertices l.instance → slice_index l.odds.items j ≡ edge_count_at l.instance (j + 1);
}
