use Rattle.certificates.proofs.Common.{◌≡◌, tabled}
use Rattle.array_call.specs.Arrays.{arrays_of, low_at}
use Rattle.array_call.proofs.making.lows_of.Given as goal

abbrev pub invariant-loop-k : goal.invariant-loop-k
invariant-loop-k l = l.lows.items ≡ tabled (low_at l.kind (arrays_of l.arrays)) l.k
