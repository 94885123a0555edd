use Rattle.graph_theory.proofs.Common.{◌≤◌, length, refl, arith}
use Rattle.graph_parts.proofs.connected.are_marked.Goals as goal

pub returns : goal.returns
returns c =
    let past : length c.args.graph.now.edges ≤ c.loop-edge.edge-index = rw c.edge_list-edge-items.ensures.list at c.loop-edge-test.false in
    ((λ t k b. c.loop-edge.invariant k (omega (arith, b, past))), (λ all. refl))
