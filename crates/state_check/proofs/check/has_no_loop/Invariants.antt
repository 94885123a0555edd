use Rattle.alt_forest.proofs.Common.{◌≡◌, All, false, take, Edge, is_loop}
use Rattle.state_check.proofs.check.has_no_loop.Given as goal

abbrev pub invariant-loop-edge : goal.invariant-loop-edge
invariant-loop-edge l = All (λ (e : Edge). is_loop e ≡ false) (take l.edge-index l.graph.edges)
