use Rattle.certificates.proofs.Common.{◌≡◌, take, numbers}
use Rattle.cert_check.proofs.claims.edges_of.Given as goal

abbrev pub invariant-loop-number : goal.invariant-loop-number
invariant-loop-number l = l.edges.items ≡ numbers (take l.number-index l.line)
