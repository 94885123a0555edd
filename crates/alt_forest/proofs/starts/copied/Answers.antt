use Rattle.graph_theory.proofs.Common.{arith, common_steps, ◌≤◌, ◌∙◌, List, length, ap, take_all, Multigraph}
use Rattle.graph_theory.specs.declared.edge.Edge.{Edge}
use Rattle.alt_forest.proofs.starts.copied.Goals as goal

pub loop-edge-preserved : goal.loop-edge-preserved
loop-edge-preserved c = grind (arith, common_steps)

pub returns : goal.returns
returns c =
    let g = c.args.graph.now in
    let past : length g.edges ≤ c.loop-edge.edge-index = rw c.edge_list-edge-items.ensures.list at c.loop-edge-test.false in
    let whole : List Edge → Multigraph = λ es. record { vertices = g.vertices; edges = es } in
    c.loop-edge.invariant ∙ ap whole (take_all c.loop-edge.edge-index g.edges past)
