use Rattle.graph_theory.proofs.Common.{pos, arith, slice_index_or, ints, IsNumber, int_sum_to-more}
use Rattle.dual_check.proofs.duals.vertex_total.Goals as goal

pub loop-a-preserved : goal.loop-a-preserved
loop-a-preserved c =
    let i = c.loop-a.a-index in
    let step = int_sum_to-more (λ k. slice_index_or c.args.y.now k (pos 0)) i in
    let small : IsNumber (slice_index_or c.args.y.now i (pos 0)) = c.requires i (pos 0) (omega arith) in
    (omega (arith, ints), omega (arith, ints), omega (arith, ints))
