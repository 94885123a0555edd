use Rattle.certificates.proofs.Common.{◌≡◌, map, drop, Set, first_fault, checked}
use Rattle.cert_check.proofs.ranges.first_set.Given as goal

abbrev pub invariant-loop-k : goal.invariant-loop-k
invariant-loop-k l = first_fault (checked l.extent.vertices l.extent.edges l.extent.certified 0 (map Set l.sets)) ≡ first_fault
    (checked l.extent.vertices l.extent.edges l.extent.certified l.k (map Set (drop l.k l.sets)))
