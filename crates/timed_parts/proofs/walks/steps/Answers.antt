use Rattle.graph_theory.proofs.Common.{◌≡◌, true, subst, rules}
use Rattle.graph_parts.specs.Connected.{HasConnectedEdges}
use Rattle.timed_parts.proofs.walks.steps.Goals as goal

pub closed_walk-requires-clause-connected : goal.closed_walk-requires-clause-connected
closed_walk-requires-clause-connected c =
    let joined : c.in_ok-edge_connected.field-0 ≡ true = search rules in
    subst HasConnectedEdges c.in_ok-graph.ensures (c.in_ok-edge_connected.ensures.exact.0 joined)
