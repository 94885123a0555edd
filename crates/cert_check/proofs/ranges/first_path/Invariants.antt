use Rattle.certificates.proofs.Common.{◌≡◌, map, drop, Even, first_fault, checked}
use Rattle.cert_check.proofs.ranges.first_path.Given as goal

abbrev pub invariant-loop-r : goal.invariant-loop-r
invariant-loop-r l = first_fault (checked l.extent.vertices l.extent.edges l.extent.certified 0 (map Even l.paths)) ≡ first_fault
    (checked l.extent.vertices l.extent.edges l.extent.certified 0 (map Even (drop l.r-index l.paths)))
