use Rattle.graph_theory.proofs.Common.{◌≡◌, ◌≤◌, length, take_all, ap, ◌∙◌, to_z, of_z, rules}
use Rattle.std.proofs.Common.{w64}
use Rattle.mb_problem.specs.Network.{graph_of}
use Rattle.mb_problem.proofs.GraphLemmas.{graph-more}
use Rattle.mb_problem.proofs.instance.Instance.graph.Goals as goal

pub loop-edge-preserved : goal.loop-edge-preserved
loop-edge-preserved c =
    let e = c.edge-item.result in
    let same : to_z w64 (of_z w64 e.w) ≡ e.w = search rules in
    graph-more c.args.self.now c.edge_list-edge-items.result.now c.loop-edge.edge-index e c.loop-edge.graph _ c.edge_list-edge-items.ensures.list c.loop-edge-test.true c.edge-item.is
    same c.loop-edge.invariant c.in_ok-add.ensures.added

pub returns : goal.returns
returns c =
    let past : length c.args.self.now.edges ≤ c.loop-edge.edge-index = rw c.edge_list-edge-items.ensures.list at c.loop-edge-test.false in
    c.loop-edge.invariant ∙ ap (λ es. graph_of (record c.args.self.now { edges = es })) (take_all c.loop-edge.edge-index _ past)
