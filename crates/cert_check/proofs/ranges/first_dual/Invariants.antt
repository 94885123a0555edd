use Rattle.certificates.proofs.Common.{◌≡◌, map, drop, Dual, first_fault, checked}
use Rattle.cert_check.proofs.ranges.first_dual.Given as goal

abbrev pub invariant-loop-y : goal.invariant-loop-y
invariant-loop-y l = first_fault (checked l.extent.vertices l.extent.edges l.extent.certified 0 (map Dual l.duals)) ≡ first_fault
    (checked l.extent.vertices l.extent.edges l.extent.certified 0 (map Dual (drop l.y-index l.duals)))
