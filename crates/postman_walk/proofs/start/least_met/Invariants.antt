use Rattle.postman_walk.proofs.StartLemmas.{IsLeastBelow}
use Rattle.postman_walk.proofs.start.least_met.Given as goal

abbrev pub invariant-loop-edge : goal.invariant-loop-edge
invariant-loop-edge l = IsLeastBelow l.graph l.least l.edge-index
