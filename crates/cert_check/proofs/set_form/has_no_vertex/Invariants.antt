use Rattle.certificates.proofs.Common.{◌≡◌, length, drop, vertices_in}
use Rattle.cert_check.proofs.set_form.has_no_vertex.Given as goal

abbrev pub invariant-loop-item : goal.invariant-loop-item
invariant-loop-item l = length (vertices_in l.items) ≡ length (vertices_in (drop l.item-index l.items))
