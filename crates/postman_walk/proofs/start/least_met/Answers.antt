use Rattle.mb_problem.proofs.Common.{◌≡◌, ◌<◌, ◌≤◌, ℕ, List, length, slice_index_or, ap, sym, subst, arith, ◌∙◌, Edge, edge_at, edge_at-read}
use Rattle.postman_walk.proofs.StartLemmas.{IsLeastBelow, least-more}
use Rattle.postman_walk.proofs.start.least_met.Goals as goal

pub loop-edge-preserved : goal.loop-edge-preserved
loop-edge-preserved c =
    let g = c.args.graph.now in
    let n = c.loop-edge.edge-index in
    let e = c.edge-item.result in
    let list = c.edge_list-edges.ensures.list in
    let low : n < length g.edges = omega (arith, ap length list) in
    let is : e ≡ edge_at g n = sym (edge_at-read g n e low (subst (λ (xs : List Edge). e ≡ slice_index_or xs n e) list c.edge-item.is)) in
    least-more g c.loop-edge.least c.min-end.result c.min-least.result n c.number.result c.number-in-loop-edge.result c.loop-edge.invariant low
    (c.number.ensures ∙ ap (λ (x : Edge). x.u) is) (c.number-in-loop-edge.ensures ∙ ap (λ (x : Edge). x.v) is) c.min-end.ensures c.min-least.ensures

pub returns : goal.returns
returns c =
    let g = c.args.graph.now in
    let i = subst (λ (v : ℕ). IsLeastBelow g v c.loop-edge.edge-index) (sym c.new.ensures) c.loop-edge.invariant in
    let past : length g.edges ≤ c.loop-edge.edge-index = rw c.edge_list-edges.ensures.list at c.loop-edge-test.false in
    record { met = i.met; least = λ k b. i.least k (omega (arith, b, past)) }
