use Rattle.certificates.proofs.Common.{◌≡◌, ◌++◌, drop, vertices_in}
use Rattle.cert_check.proofs.claims.vertices_in.Given as goal

abbrev pub invariant-loop-item : goal.invariant-loop-item
invariant-loop-item l = vertices_in l.items ≡ l.vertices.items ++ vertices_in (drop l.item-index l.items)
