use Rattle.graph_theory.proofs.Common.{◌<◌, ◌≤◌, ◌-◌, length, slice_index}
use Rattle.gadget_base.proofs.offsets.find_block.Given as goal

abbrev pub invariant-loop-low : goal.invariant-loop-low
invariant-loop-low l = record {
  order : l.low < l.high;
  inside : l.high < length l.starts;
  begun : slice_index l.starts l.low ≤ l.place;
  not_ended : l.place < slice_index l.starts l.high;
}

abbrev pub decreases-loop-low : goal.decreases-loop-low
decreases-loop-low l = l.high - l.low
