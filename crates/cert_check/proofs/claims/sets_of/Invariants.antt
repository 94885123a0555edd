use Rattle.certificates.proofs.Common.{◌≡◌, take, map, set_of}
use Rattle.cert_check.proofs.claims.sets_of.Given as goal

abbrev pub invariant-loop-z : goal.invariant-loop-z
invariant-loop-z l = l.sets.items ≡ map set_of (take l.z-index l.lines)
