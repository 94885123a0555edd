use Rattle.mb_problem.proofs.Common.{rules, ◌≡◌, ◌-◌, ◌*◌, ◌/◌, cond, length, arith, ap, ◌∙◌, is_loop, plain, value_of, instance_edge_at, copy_pairs}
use Rattle.mb_problem.specs.declared.instance.InstanceEdge.{InstanceEdge}
use Rattle.gadget_base.proofs.Within.{edge_here}
use Rattle.gadget_match.proofs.CountLemmas.{pushed-each}
use Rattle.gadget_match.proofs.gathering.pair_counts.Goals as goal

pub loop-edge-preserved : goal.loop-edge-preserved
loop-edge-preserved c =
    let i = c.args.instance.now in
    let k = c.loop-edge.edge-index in
    let items = c.edge_list-edge-items in
    let here : c.edge-item.result ≡ instance_edge_at i k = edge_here i items.result.now k c.edge-item.result items.ensures.list c.loop-edge-test.true c.edge-item.is in
    let count : c.copy_pairs.result ≡ copy_pairs i k = c.copy_pairs.ensures.pairs
    ∙ ap (λ (e : InstanceEdge). cond (is_loop (plain e)) (value_of i e.u * (value_of i e.u - 1) / 2) (value_of i e.u * value_of i e.v)) here in
    record {
      size = search rules;
      each = pushed-each c.loop-edge.counts.items c.push.new.self.items _ k (copy_pairs i) c.in_ok-push.ensures.items c.loop-edge.invariant.size c.loop-edge.invariant.each count;
    }

pub returns-clause-size : goal.returns-clause-size
returns-clause-size c =
    omega (arith, ap length c.edge_list-edge-items.ensures.list, c.loop-edge-test.false, c.loop-edge.auto.edge-index-end, c.loop-edge.invariant.size)

pub returns-clause-each : goal.returns-clause-each
returns-clause-each c = let size = ap length c.edge_list-edge-items.ensures.list in λ k b. c.loop-edge.invariant.each k (omega (arith, b, size, c.loop-edge-test.false))
