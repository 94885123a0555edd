use Rattle.graph_theory.proofs.Common.{◌≡◌, map, take}
use Rattle.dimacs_read.specs.Format.{value_or, low_or, high_or}
use Rattle.dimacs_read.proofs.keep.with_defaults.Given as goal

abbrev pub invariant-loop-entry : goal.invariant-loop-entry
invariant-loop-entry l = record {
  values : l.lists.values.items ≡ map (value_or l.default) (take l.entry-index l.given);
  lows : l.lists.lows.items ≡ map low_or (take l.entry-index l.given);
  highs : l.lists.highs.items ≡ map high_or (take l.entry-index l.given);
}
