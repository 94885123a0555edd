use Rattle.mb_problem.proofs.Common.{◌≤◌, ◌++◌, ◌∙◌, ap, length, List, Edge, take_all}
use Rattle.gadget_base.proofs.Common.{moved}
use Rattle.gadget_interval.proofs.halves.add_moved.Goals as goal

pub returns : goal.returns
returns c =
    let g = c.args.graph.now in
    let es = c.args.half.now.edges in
    let past : length es ≤ c.loop-edge.edge-index = rw c.edge_list-edge-items.ensures.list at c.loop-edge-test.false in
    record { added = c.loop-edge.invariant ∙ ap (λ (xs : List Edge). record g { edges = g.edges ++ moved c.args.by xs }) (take_all c.loop-edge.edge-index es past) }
