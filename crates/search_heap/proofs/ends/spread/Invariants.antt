use Rattle.search_heap.proofs.Spreads.{IsSpreading}
use Rattle.search_heap.proofs.ends.spread.Given as goal

abbrev pub invariant-loop-bucket : goal.invariant-loop-bucket
invariant-loop-bucket l = IsSpreading l.fn.ends.items l.ends.items l.moment l.last l.bucket
