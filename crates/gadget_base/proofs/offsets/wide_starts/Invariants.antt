use Rattle.graph_theory.proofs.Common.{◌≡◌, ◌+◌, ◌*◌, ◌≤◌, slice_index, sum_to}
use Rattle.gadget_base.specs.Blocks.{tabled}
use Rattle.gadget_base.proofs.offsets.wide_starts.Given as goal

abbrev pub invariant-loop-size : goal.invariant-loop-size
invariant-loop-size l = record {
  so_far : l.total ≡ sum_to (λ j. slice_index l.sizes j) l.size-index;
  value_limit : l.total ≤ l.size-index * 4294967295;
  starts : l.starts.items ≡ tabled (sum_to (λ j. slice_index l.sizes j)) (l.size-index + 1);
}
