use Rattle.certificates.proofs.Common.{◌≡◌, tabled}
use Rattle.array_call.specs.Arrays.{arrays_of, high_at}
use Rattle.array_call.proofs.making.highs_of.Given as goal

abbrev pub invariant-loop-k : goal.invariant-loop-k
invariant-loop-k l = l.highs.items ≡ tabled (high_at l.kind (arrays_of l.arrays)) l.k
