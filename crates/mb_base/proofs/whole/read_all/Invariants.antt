use Rattle.std.proofs.Common.{◌≡◌, ◌+◌, ◌-◌, ◌≤◌, length}
use Rattle.std.specs.Io.KnownBytes.{Consumes}
use Rattle.mb_base.proofs.whole.read_all.Given as goal

abbrev pub invariant-loop-buf : goal.invariant-loop-buf
invariant-loop-buf g l = record {
  read : Consumes (g.S.Source.left l.fn.source) (g.S.Source.left l.source) l.bytes.items;
  size_limit : length l.bytes.items ≤ l.limit + 1;
  quiet : g.S.Source.faults l.source ≡ g.S.Source.faults l.fn.source;
}

abbrev pub decreases-loop-buf : goal.decreases-loop-buf
decreases-loop-buf g l = l.limit + 1 - length l.bytes.items
