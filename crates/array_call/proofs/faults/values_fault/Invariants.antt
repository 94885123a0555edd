use Rattle.graph_theory.proofs.Common.{◌≡◌, None}
use Rattle.array_call.specs.Arrays.{arrays_of}
use Rattle.array_call.specs.Faults.{value_fault, first}
use Rattle.array_call.proofs.faults.values_fault.Given as goal

abbrev pub invariant-loop-k : goal.invariant-loop-k
invariant-loop-k l = first (value_fault l.kind (arrays_of l.arrays)) l.k ≡ None
