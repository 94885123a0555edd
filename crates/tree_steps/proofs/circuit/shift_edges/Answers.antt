use Rattle.graph_theory.proofs.Common.{arith}
use Rattle.tree_steps.proofs.Shifted.{shifted_next}
use Rattle.tree_steps.proofs.circuit.shift_edges.Goals as goal

pub loop-place-preserved : goal.loop-place-preserved
loop-place-preserved c =
    let i = c.loop-place.invariant in
    record {
      shifted = shifted_next c.args.first c.args.links.now.items c.loop-place.links.items c.loop-place.place c.loop-place.edge c.index-link.result.now i.shifted
          (omega (arith, c.loop-place-test.true, i.len)) c.index-link.ensures;
      len = i.len;
      capacity = i.capacity;
    }
