use Rattle.certificates.proofs.Common.{◌≡◌, take, numbers}
use Rattle.cert_check.proofs.claims.members_of.Given as goal

abbrev pub invariant-loop-member : goal.invariant-loop-member
invariant-loop-member l = l.vertices.items ≡ numbers (take l.member-index l.members)
