use Rattle.graph_theory.proofs.Common.{◌≡◌, None}
use Rattle.array_call.specs.Arrays.{arrays_of}
use Rattle.array_call.specs.Faults.{negative_fault, first}
use Rattle.array_call.proofs.faults.negatives_fault.Given as goal

abbrev pub invariant-loop-k : goal.invariant-loop-k
invariant-loop-k l = first (negative_fault (arrays_of l.arrays)) l.k ≡ None
