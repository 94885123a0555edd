use Rattle.mb_problem.proofs.Common.{◌≡◌, take}
use Rattle.gadget_base.proofs.Common.{tabled}
use Rattle.array_call.specs.Layout.{all_items, offset_at}
use Rattle.array_joins.specs.Numbers.{edge_lists}
use Rattle.array_joins.proofs.laying.edges_of.Given as goal

abbrev pub invariant-loop-outcome : goal.invariant-loop-outcome
invariant-loop-outcome l = record {
  offsets : l.offsets.items ≡ tabled (offset_at (edge_lists l.outcomes)) l.outcome-index;
  all : l.all.items ≡ all_items (edge_lists (take l.outcome-index l.outcomes));
}
