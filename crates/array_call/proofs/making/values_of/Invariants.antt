use Rattle.certificates.proofs.Common.{◌≡◌, tabled}
use Rattle.array_call.specs.Arrays.{arrays_of, value_at}
use Rattle.array_call.proofs.making.values_of.Given as goal

abbrev pub invariant-loop-k : goal.invariant-loop-k
invariant-loop-k l = l.values.items ≡ tabled (value_at l.kind (arrays_of l.arrays)) l.k
