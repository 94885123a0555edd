use Rattle.graph_theory.proofs.Common.{◌∙◌}
use Rattle.blossom_arena.proofs.LinkLists.{drop_next}
use Rattle.blossom_arena.proofs.tables.thread.Goals as goal

pub loop-place-preserved : goal.loop-place-preserved
loop-place-preserved c =
    let i = c.loop-place.invariant in
    let next = drop_next c.args.circuit.now c.loop-place.place c.index-circuit-place.result c.loop-place-test.true c.index-circuit-place.is in
    record { rest = rw (c.set_entry.ensures.items, c.number.ensures, c.node_at.ensures) (rw next at i.rest); len = c.set_entry.ensures.len ∙ i.len; within = (rw next at i.within).1 }
