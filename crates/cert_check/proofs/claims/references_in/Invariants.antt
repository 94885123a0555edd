use Rattle.certificates.proofs.Common.{◌≡◌, ◌++◌, drop, references_in}
use Rattle.cert_check.proofs.claims.references_in.Given as goal

abbrev pub invariant-loop-item : goal.invariant-loop-item
invariant-loop-item l = references_in l.items ≡ l.references.items ++ references_in (drop l.item-index l.items)
