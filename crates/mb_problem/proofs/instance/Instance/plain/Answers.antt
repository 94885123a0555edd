use Rattle.graph_theory.proofs.Common.{◌≡◌, ◌+◌, ◌≤◌, length, take_all, to_z, of_z, rules, subst, IsWeight, ap, ◌∙◌, sym}
use Rattle.std.proofs.Common.{w64}
use Rattle.mb_problem.specs.Network.{plain_graph}
use Rattle.mb_problem.proofs.EdgeLemmas.{keeps}
use Rattle.mb_problem.proofs.GraphLemmas.{IsPlainTo, plain-more, plain-same}
use Rattle.mb_problem.proofs.instance.Instance.plain.Goals as goal
use Rattle.mb_problem.proofs.instance.Instance.plain.Goals.{then-ne+in_ok-add, else-ne}

pub loop-edge-preserved : goal.loop-edge-preserved
loop-edge-preserved c =
    let i = c.args.self.now in
    let es = c.edge_list-edge-items.result.now in
    let k = c.loop-edge.edge-index in
    let e = c.edge-item.result in
    let g = c.loop-edge.graph in
    let list = c.edge_list-edge-items.ensures.list in
    let so_far = c.loop-edge.invariant in
    let same : to_z w64 (of_z w64 e.w) ≡ e.w = search rules in
    let all : IsPlainTo i (k + 1) c.if-ne.graph = elim c.if-ne.branch [
      | then-ne+in_ok-add w ↦ plain-more i es k e g c.if-ne.graph list c.loop-edge-test.true c.edge-item.is same (sym c.ne.ensures ∙ w.if-ne.true) so_far.graph so_far.size_limit
          (w.graph-is ∙ w.in_ok-add.ensures.added)
      | else-ne w ↦ plain-same i es k e g c.if-ne.graph list c.loop-edge-test.true c.edge-item.is (sym c.ne.ensures ∙ w.if-ne.false) so_far.graph so_far.size_limit w.graph-is
    ] in
    record { graph = all.graph; size_limit = all.size_limit; loopless = all.loopless }

pub returns-clause-graph : goal.returns-clause-graph
returns-clause-graph c =
    let i = c.args.self.now in
    let past : length i.edges ≤ c.loop-edge.edge-index = rw c.edge_list-edge-items.ensures.list at c.loop-edge-test.false in
    c.loop-edge.invariant.graph ∙ ap (λ es. plain_graph (record i { edges = es })) (take_all c.loop-edge.edge-index i.edges past)

pub returns-clause-loopless : goal.returns-clause-loopless
returns-clause-loopless c = c.loop-edge.invariant.loopless

pub add-requires-clause-weight : goal.add-requires-clause-weight
add-requires-clause-weight c =
    let same : to_z w64 (of_z w64 c.edge-item.result.w) ≡ c.edge-item.result.w = search rules in
    subst IsWeight (sym same) (keeps c.args.self.now c.edge_list-edge-items.result.now c.loop-edge.edge-index c.edge-item.result c.edge_list-edge-items.ensures.network
    c.edge_list-edge-items.ensures.list c.loop-edge-test.true c.edge-item.is).weight
