use Rattle.graph_theory.proofs.Common.{◌≡◌, length}
use Rattle.augment.specs.Opening.{links_after}
use Rattle.augment.proofs.opening.links_behind.Given as goal

abbrev pub invariant-loop-link : goal.invariant-loop-link
invariant-loop-link l = links_after l.rest l.node ≡ links_after l.fn.links l.node

abbrev pub decreases-loop-link : goal.decreases-loop-link
decreases-loop-link l = length l.rest
