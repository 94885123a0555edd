use Rattle.cert_check.proofs.BorderLemmas.{AreNear}
use Rattle.cert_check.proofs.border.is_border.Given as goal

abbrev pub invariant-loop-edge : goal.invariant-loop-edge
invariant-loop-edge l = AreNear l.graph l.outer l.edge-index l.near.items
