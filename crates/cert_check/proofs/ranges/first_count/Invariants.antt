use Rattle.certificates.proofs.Common.{◌≡◌, map, drop, Count, first_fault, checked}
use Rattle.cert_check.proofs.ranges.first_count.Given as goal

abbrev pub invariant-loop-x : goal.invariant-loop-x
invariant-loop-x l = first_fault (checked l.extent.vertices l.extent.edges l.extent.certified 0 (map Count l.counts)) ≡ first_fault
    (checked l.extent.vertices l.extent.edges l.extent.certified 0 (map Count (drop l.x-index l.counts)))
