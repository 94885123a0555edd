use Rattle.graph_theory.proofs.Common.{arith}
use Rattle.gadget_base.proofs.Within.{edge_here}
use Rattle.gadget_parity.proofs.Building.{copies-step}
use Rattle.gadget_parity.proofs.layers.add_copies.Goals as goal

pub loop-edge-preserved : goal.loop-edge-preserved
loop-edge-preserved c =
    let i = c.args.instance.now in
    let k = c.loop-edge.edge-index in
    let items = c.edge_list-edge-items in
    let is = edge_here i items.result.now k c.edge-item.result items.ensures.list c.loop-edge-test.true c.edge-item.is in
    let one = c.in_ok-add_copy.ensures in
    let two = c.in_ok-add_copy-2.ensures in
    record {
      added = copies-step i c.args.first.now c.args.second.now c.args.graph.now c.loop-edge.graph c.add_copy.new.graph c.add_copy-in-loop-edge.new.graph k c.edge-item.result is
          c.loop-edge.invariant.added one.added two.added;
      size_limit = omega (arith, c.loop-edge.invariant.size_limit, one.size_limit, two.size_limit);
    }
