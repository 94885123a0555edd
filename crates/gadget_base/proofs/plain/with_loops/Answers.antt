use Rattle.mb_problem.proofs.Common.{◌≡◌, ℕ, List, cond, length, slice_index, ap, sym, ◌∙◌, false, arith, is_loop, plain, is_loop_at}
use Rattle.mb_problem.specs.declared.instance.InstanceEdge.{InstanceEdge}
use Rattle.gadget_base.proofs.Common.{tabled, links_below, edge_here, place_here, link-place}
use Rattle.gadget_base.proofs.plain.with_loops.Goals as goal

pub bounds-counts-place : goal.bounds-counts-place
bounds-counts-place c =
    let i = c.args.instance.now in
    let k = c.loop-edge.edge-index in
    let items = c.edge_list-edge-items in
    let is = edge_here i items.result.now k c.edge-item.result items.ensures.list c.loop-edge-test.true c.edge-item.is in
    let link : is_loop_at i k ≡ false = ap (λ (e : InstanceEdge). is_loop (plain e)) (sym is) ∙ sym c.eq.ensures ∙ c.if-eq.false in
    omega (arith, c.loop-edge.invariant.place, link-place i k (place_here i items.result.now k items.ensures.list c.loop-edge-test.true) link, c.requires)

pub returns : goal.returns
returns c =
    let i = c.args.instance.now in
    let list = ap (λ (es : List InstanceEdge). length es) c.edge_list-edge-items.ensures.list in
    let all : c.loop-edge.edge-index ≡ length i.edges = omega (arith, list, c.loop-edge-test.false, c.loop-edge.auto.edge-index-end) in
    c.loop-edge.invariant.so_far ∙ ap (tabled (λ (k : ℕ). cond (is_loop_at i k) 0 (slice_index c.args.counts.now (links_below i k)))) all
