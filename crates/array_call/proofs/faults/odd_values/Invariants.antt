use Rattle.graph_theory.proofs.Common.{◌≡◌, ◌≤◌, ◌%◌, sum_to}
use Rattle.array_call.specs.Arrays.{arrays_of, value_at}
use Rattle.array_call.proofs.faults.odd_values.Given as goal

abbrev pub invariant-loop-k : goal.invariant-loop-k
invariant-loop-k l = record {
  count : l.count ≡ sum_to (λ k. value_at l.kind (arrays_of l.arrays) k % 2) l.k;
  value_limit : l.count ≤ l.k;
}
