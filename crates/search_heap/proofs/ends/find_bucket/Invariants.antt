use Rattle.std.proofs.Common.{◌-◌, pos, ◌+ℤ◌, ◌≤ℤ◌}
use Rattle.search_heap.specs.Rising.{end_at}
use Rattle.search_heap.proofs.ends.find_bucket.Given as goal

abbrev pub invariant-loop-bucket : goal.invariant-loop-bucket
invariant-loop-bucket l = (end_at l.ends (l.bucket - 1) +ℤ pos 1) ≤ℤ l.moment
