use Rattle.certificates.proofs.Common.{◌≡◌, drop, vertices_first}
use Rattle.cert_check.proofs.set_form.are_sorted.Given as goal

abbrev pub invariant-loop-k : goal.invariant-loop-k
invariant-loop-k l = vertices_first l.items ≡ vertices_first (drop l.k l.items)
