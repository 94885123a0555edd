use Rattle.graph_theory.proofs.Common.{◌∙◌}
use Rattle.blossom_arena.proofs.partition.Partition.place.Goals as goal

pub loop-v-preserved : goal.loop-v-preserved
loop-v-preserved c =
    let i = c.loop-v.invariant in
    let steps = c.in-Some.ensures.steps in
    record { rest = rw (c.put.ensures.placement, c.number.ensures) (rw steps at i.rest); len = c.put.ensures.len ∙ i.len; within = (rw steps at i.within).1 }
