use Rattle.mb_problem.proofs.Common.{◌≡◌, ◌*◌, vertices}
use Rattle.gadget_base.proofs.Common.{blocks, two_copies}
use Rattle.gadget_match.proofs.doubling.add_edges_twice.Given as goal

abbrev pub invariant-loop-edge : goal.invariant-loop-edge
invariant-loop-edge l = l.graph ≡ record { vertices = 2 * vertices l.instance; edges = blocks (two_copies l.instance) l.edge-index }
