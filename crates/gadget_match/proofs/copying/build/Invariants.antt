use Rattle.mb_problem.proofs.Common.{◌≡◌, value_total}
use Rattle.gadget_base.proofs.Common.{blocks, pairs_of_copies}
use Rattle.gadget_match.proofs.copying.build.Given as goal

abbrev pub invariant-loop-edge : goal.invariant-loop-edge
invariant-loop-edge l = l.graph ≡ record { vertices = value_total l.instance; edges = blocks (pairs_of_copies l.instance) l.edge-index }
