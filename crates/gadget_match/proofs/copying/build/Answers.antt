use Rattle.mb_problem.proofs.Common.{◌≡◌, ℕ, ◌<◌, [], length, arith, ap, sym, ◌∙◌, ◌++◌, List, Edge, Multigraph, value_total}
use Rattle.mb_problem.specs.declared.instance.InstanceEdge.{InstanceEdge}
use Rattle.gadget_base.proofs.Common.{blocks, pairs_of_copies, edge_here}
use Rattle.gadget_base.proofs.Blocks.{blocks-more}
use Rattle.gadget_match.specs.Copied.{pairs_between}
use Rattle.gadget_match.proofs.BuildLemmas.{room-pairs, start-total}
use Rattle.gadget_match.proofs.copying.build.Goals as goal

pub returns : goal.returns
returns c =
    let i = c.args.instance.now in
    let all : c.loop-edge.edge-index ≡ length i.edges = omega (arith, ap length c.edge_list-edge-items.ensures.list, c.loop-edge-test.false, c.loop-edge.auto.edge-index-end) in
    c.loop-edge.invariant ∙ ap (λ (n : ℕ). record { vertices = value_total i; edges = blocks (pairs_of_copies i) n }) all

pub loop-edge-init : goal.loop-edge-init
loop-edge-init c =
    let i = c.args.instance.now in
    let total : c.index.result.now ≡ value_total i = start-total i c.value_list.result.now c.in_ok-starts.starts.items c.vertices.result c.index.result.now c.value_list.ensures.list
    c.in_ok-starts.ensures c.vertices.ensures.count c.index.ensures in
    c.new-graph.ensures ∙ ap (λ (n : ℕ). record { vertices = n; edges = [] }) total

pub add_pairs-requires-clause-room : goal.add_pairs-requires-clause-room
add_pairs-requires-clause-room c =
    let i = c.args.instance.now in
    let k = c.loop-edge.edge-index in
    let list = c.edge_list-edge-items.ensures.list in
    let below : k < length i.edges = omega (arith, ap length list) in
    room-pairs i c.loop-edge.graph k c.edge-item.result c.requires.limits c.loop-edge.invariant below
    (edge_here i c.edge_list-edge-items.result.now k c.edge-item.result list c.loop-edge-test.true c.edge-item.is)

pub loop-edge-preserved : goal.loop-edge-preserved
loop-edge-preserved c =
    let i = c.args.instance.now in
    let k = c.loop-edge.edge-index in
    let e = c.edge-item.result in
    let here = edge_here i c.edge_list-edge-items.result.now k e c.edge_list-edge-items.ensures.list c.loop-edge-test.true c.edge-item.is in
    c.in_ok-add_pairs.ensures.added ∙ ap (λ (g : Multigraph). record g { edges = g.edges ++ pairs_between i e }) c.loop-edge.invariant
    ∙ ap (λ (f : InstanceEdge). record { vertices = value_total i; edges = blocks (pairs_of_copies i) k ++ pairs_between i f }) here
    ∙ ap (λ (es : List Edge). record { vertices = value_total i; edges = es }) (sym (blocks-more (pairs_of_copies i) k))
